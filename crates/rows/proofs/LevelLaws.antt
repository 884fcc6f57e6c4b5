-- Laws of a width that may be reckoned below 0. Assumes nothing.
use Rattle.std.proofs.Common.{leb-true, leb-false, ◌≡◌, refl, sym, ap, ◌∙◌, true, false, true≢false, ℕ, zero, suc, ◌^◌, ◌<◌, ◌≤◌, arith, T, ℤ, pos, negsuc, nat_abs, w64, SFits, to_z, of_z, to_z-of_z}
use borrow.Author.Tests.{lt-leb}
use lib.Signed.{le_z, non_neg}
use mir.ValLaws.{to_z_pos}
use Rattle.rows.specs.Word.{level_of}

-- what is not below 0 is its own level
pub level-pos : (n : ℕ) → level_of (pos n) ≡ n
unfolding level_of
level-pos zero = refl
level-pos (suc n) = simp (lt-leb (suc n) 0 (omega arith))

-- so is a width that is read as a signed number
pub level-wide : (w : ℕ) → w < 2 ^ 63 → w ≡ level_of (to_z w64 w)
level-wide w h = sym (ap level_of (to_z_pos w64 w h) ∙ level-pos w)

-- a signed number keeps its level in a word
pub level-kept : {y : ℤ} → SFits w64 y → level_of y ≡ level_of (to_z w64 (of_z w64 y))
level-kept f = sym (ap level_of (to_z-of_z f))

-- what is not above 0 is at level 0, and all else at its magnitude
pub level-none : (y : ℤ) → le_z y (pos 0) ≡ true → level_of y ≡ 0
unfolding level_of
level-none y e = simp e

pub level-some : (y : ℤ) → le_z y (pos 0) ≡ false → (level_of y ≡ nat_abs y) × (1 ≤ nat_abs y) × T (non_neg y)
unfolding level_of
level-some (pos zero) e = absurd (true≢false e)
level-some (pos (suc n)) e = (simp e, omega arith, tt)
level-some (negsuc n) e = absurd (true≢false e)

-- a level is at most n where the number is
pub level-le : (y : ℤ) (n : ℕ) → le_z y (pos n) ≡ true → level_of y ≤ n
unfolding level_of
level-le (pos m) n e = omega (arith, level-pos m, leb-true m n e)
level-le (negsuc m) n e = omega arith

-- and more where the number is
pub level-gt : (y : ℤ) (n : ℕ) → le_z y (pos n) ≡ false → n < level_of y
level-gt (pos m) n e = omega (arith, level-pos m, leb-false m n e)
level-gt (negsuc m) n e = absurd (true≢false e)
