-- Coefficients of selector 0 under another selector.
use Rattle.std.specs.Prelude.{cond, ℕ, ◌-◌, ◌%◌, ◌^◌, eqb, ℤ, pos, nat_abs, ◌+ℤ◌, ◌*ℤ◌}
use Rattle.wrap32.specs.Cut.{wrap}
use Rattle.wrap32.specs.Edge.{sign_of}
use Rattle.bits.specs.declared.Four.{Four}

-- a coefficient under a selector: scaled, and half a step further from 0, less 1 where it is odd
unfoldable pub stretch_of : ℕ → ℤ → ℤ
stretch_of sel x = cond (eqb sel 0) x (wrap (x *ℤ pos (2 ^ sel) +ℤ sign_of x *ℤ pos (2 ^ (sel - 1) - nat_abs x % 2)))

-- four of them
abbrev pub stretch_quad : ℕ → Four ℤ → Four ℤ
stretch_quad sel q = record { a = stretch_of sel q.a; b = stretch_of sel q.b; c = stretch_of sel q.c; d = stretch_of sel q.d }
