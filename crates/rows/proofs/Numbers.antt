-- Laws of the numbers of a row. Assumes nothing.
use Rattle.std.proofs.Common.{eq-eqb, ne_eqb, ◌≡◌, ℕ, ◌+◌, ◌-◌, ◌*◌, ◌^◌, ◌%◌, ◌<◌, ◌≤◌, arith, mul-le-mul_left, mul-one, pos, shl_exact, pow_pos}
use mathlib.Core.Bool.{or-true}
use Rattle.wrap32.specs.Cut.{wrap}
use Rattle.format.specs.Coefficients.{value_of}

-- a product by a power of two is no less
pub le-shl : (a k : ℕ) → a ≤ a * 2 ^ k
le-shl a k = rw mul-one at (mul-le-mul_left a (pow_pos k))

-- a value's shift loses nothing
pub value-shl : (u k : ℕ) → u < 2 ^ 32 → k < 16 → (2 * u + 1) * 2 ^ k % 2 ^ 64 ≡ (2 * u + 1) * 2 ^ k
value-shl u k small h = shl_exact 33 k 64 (omega arith) (omega arith)

-- the ways to a value
pub value-plain : (u sel : ℕ) → sel ≡ 0 → value_of u sel ≡ pos u
unfolding value_of
value-plain u sel e = simp (eq-eqb sel 0 e)

pub value_none : (u sel : ℕ) → u ≡ 0 → value_of u sel ≡ pos 0
unfolding value_of
value_none u sel e = simp (or-true, e)

pub value-some : (u sel : ℕ) → (sel ≡ 0 → ⊥) → (u ≡ 0 → ⊥) → value_of u sel ≡ wrap (pos ((2 * u + 1) * 2 ^ (sel - 1) - u % 2))
unfolding value_of
value-some u sel m n = simp (ne_eqb sel 0 m, ne_eqb u 0 n)
