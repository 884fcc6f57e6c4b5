-- The sign of a number. Assumes nothing.
use Rattle.std.proofs.Common.{◌≡◌, refl, sym, ap, ◌∙◌, zero, suc, ℤ, pos, negsuc, of_z, to_z, to_z-of_z, w32, SFits, [], le-ltb, arith}
use Rattle.std.specs.Int.Signed.{lt_z}
use mir.Val.{bool_byte}
use Rattle.format.specs.Writing.{number_bits, sign_bits}

pub sign-some : (z : ℤ) → (of_z w32 z ≡ 0 → ⊥) → number_bits 1 (bool_byte (lt_z z (pos 0))) ≡ sign_bits z
unfolding number_bits
sign-some (pos zero) h = absurd (h refl)
sign-some (pos (suc n)) h = rw (le-ltb (suc n) 0 (omega arith)) refl
sign-some (negsuc n) h = refl

pub sign-none : (z : ℤ) → SFits w32 z → of_z w32 z ≡ 0 → [] ≡ sign_bits z
sign-none z f h = let e : z ≡ pos 0 = sym (to_z-of_z f) ∙ ap (to_z w32) h in rw e refl
