-- Document 01's E, which goes over a detail at an edge, and its undoing.
use Rattle.std.specs.Prelude.{zero, suc, ◌%◌, ◌^◌, Bool, false, not, ◌&&◌, cond, eqb, ltb, ℤ, pos, negsuc, nat_abs}
use Rattle.std.specs.Bool.{beq}
use Rattle.std.specs.Int.Signed.{quot_z}
use Rattle.wrap32.specs.Arithmetic.{Arithmetic, wrapping}

-- -1, 0 or 1
abbrev pub sign_of : ℤ → ℤ
sign_of (pos zero) = pos 0
sign_of (pos (suc n)) = pos 1
sign_of (negsuc n) = negsuc 0

abbrev pub is_odd : ℤ → Bool
is_odd z = not (eqb (nat_abs z % 2) 0)

module _ {N : Type 0} (A : Arithmetic N) where
  open A use {of, plus}

  -- twice v, plus v's sign if v is even; in odd mode, if v is odd
  unfoldable pub edge_detail : Bool → ℤ → N
  edge_detail odd v = cond (beq (is_odd v) odd) (plus (plus (of v) (of v)) (of (sign_of v))) (plus (of v) (of v))

abbrev pub eq_z : ℤ → ℤ → Bool
eq_z (pos a) (pos b) = eqb a b
eq_z (pos a) (negsuc b) = false
eq_z (negsuc a) (pos b) = false
eq_z (negsuc a) (negsuc b) = eqb a b

-- the one v below 2 ^ 30 in magnitude with edge_detail wrapping odd v ≡ e; 0 if there is none. Half of e, rounded toward 0, is the only candidate
unfoldable pub edge_back : Bool → ℤ → ℤ
edge_back odd e =
    cond (eq_z (edge_detail wrapping odd (quot_z e (pos 2))) e && ltb (nat_abs (quot_z e (pos 2))) (2 ^ 30)) (quot_z e (pos 2)) (pos 0)
