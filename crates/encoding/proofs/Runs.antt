-- Laws of zero groups, of the code of a run and of a width update. Assumes nothing.
use Rattle.std.proofs.Common.{◌≡◌, refl, sym, ap, ◌∙◌, List, [], ◌∷◌, ◌++◌, ℕ, zero, suc, ◌+◌, ◌-◌, ◌*◌, ◌^◌, ◌≤◌, ◌<◌, pow-suc, lt_of_lt_of_le, arith, pow_mono, lt-ltb, le-ltb, eq-eqb, ne_eqb}
use Rattle.format.specs.Lifting.{Signal}
use Rattle.format.specs.Reader.{bit_length}
use Rattle.format.specs.Writing.{number_bits, zero_bits, unary_bits, update_bits, run_bits, group_width, zero_groups}
use Rattle.encoding.proofs.Widths.{under-length, length-under, length_most, length_some}
use Rattle.codes.proofs.Pushed.{number-unary, number-join}

-- ---- zero groups, one by one
module _ (f : Signal) where
  pub zero-end : (j : ℕ) → zero_groups f j 0 ≡ 0
  unfolding zero_groups
  zero-end j = refl

  pub zero_more : (j g : ℕ) → 0 < g → group_width f j ≡ 0 → zero_groups f j g ≡ suc (zero_groups f (suc j) (g - 1))
  unfolding zero_groups
  zero_more j zero h e = absurd (omega arith)
  zero_more j (suc g) h e = let k : suc g - 1 ≡ g = omega arith in rw (eq-eqb (group_width f j) 0 e, k)

  pub zero-none : (j g : ℕ) → (group_width f j ≡ 0 → ⊥) → zero_groups f j g ≡ 0
  unfolding zero_groups
  zero-none j zero e = refl
  zero-none j (suc g) e = rw (ne_eqb (group_width f j) 0 e)

  -- k of them were passed
  pub zero-on : (j g k : ℕ) → k < g → zero_groups f j g ≡ k + zero_groups f (j + k) (g - k) → group_width f (j + k) ≡ 0 → zero_groups f j g ≡ k + 1 + zero_groups f (j + (k + 1)) (g - (k + 1))
  zero-on j g k l e z =
      let m = zero_more (j + k) (g - k) (omega arith) z in
      let a : suc (j + k) ≡ j + (k + 1) = omega arith in
      let b : g - k - 1 ≡ g - (k + 1) = omega arith in
      e ∙ omega (arith, m ∙ (λ i. suc (zero_groups f (a i) (b i))))

-- ---- the code of a run
pub code-whole : (g k : ℕ) → k ≡ g → zero_bits (bit_length (g - 1)) ≡ run_bits g k
unfolding run_bits
code-whole g k e = rw (eq-eqb k g e) refl

pub code-part : (g k : ℕ) → 0 < k → k < g → g < 2 ^ 16 → number_bits (bit_length k - 1 + 1 + (bit_length k - 1)) k ≡ run_bits g k
unfolding run_bits
code-part g k some less fits =
    let z = bit_length k - 1 in
    let e = k - 2 ^ z in
    let p : 0 < bit_length k = length_some k (omega arith) some in
    let up : bit_length k ≡ suc z = omega arith in
    let upper : k < 2 ^ suc z = rw up at (under-length k (omega arith)) in
    let lower : 2 ^ suc z ≤ 2 * k + 1 = rw up at (length-under k (omega arith)) in
    let whole : 1 * 2 ^ z + e ≡ k = omega (arith, pow-suc 2 z) in
    let short : e < 2 ^ z = omega (arith, pow-suc 2 z) in
    let one : z + 1 ≡ bit_length k = omega arith in
    rw (ne_eqb k g (λ q. omega arith))
    (ap (number_bits (z + 1 + z)) (sym whole) ∙ number-join (z + 1) 1 z e short ∙ ap (λ (l : List ℕ). l ++ number_bits z e) (number-unary (z + 1) (omega arith) ∙ ap unary_bits one))

pub part-most : (k : ℕ) → k < 2 ^ 16 → (bit_length k ≤ 16) × (k < 2 ^ (bit_length k - 1 + 1 + (bit_length k - 1)))
part-most k h =
    let m : bit_length k ≤ bit_length k - 1 + 1 + (bit_length k - 1) = omega arith in
    (length_most k (omega arith) 16 h, lt_of_lt_of_le (under-length k (omega arith)) (pow_mono m))

-- ---- the four forms of a width update
opens : (n v : ℕ) (x y : List ℕ) → number_bits n v ≡ x → x ++ y ≡ number_bits n v ++ y
opens n v x y e = ap (λ (z : List ℕ). z ++ y) (sym e)

ten : number_bits 2 2 ≡ 1 ∷ 0 ∷ []
unfolding number_bits
ten = refl

eleven : number_bits 2 3 ≡ 1 ∷ 1 ∷ []
unfolding number_bits
eleven = refl

module _ (a b : ℕ) where
  pub update-kept : a ≡ b → update_bits a b ≡ zero_bits 1
  unfolding update_bits
  update-kept e = rw (eq-eqb a b e)

  pub update-grown : a < b → update_bits a b ≡ number_bits 2 2 ++ unary_bits (b - a)
  unfolding update_bits
  update-grown h = rw (ne_eqb a b (λ e. omega arith), lt-ltb a b h) (opens 2 2 (1 ∷ 0 ∷ []) (unary_bits (b - a)) ten)

  pub update-gone : b < a → b ≡ 0 → update_bits a b ≡ number_bits 2 3 ++ zero_bits (a - 1)
  unfolding update_bits
  update-gone h z = rw (ne_eqb a b (λ e. omega arith), le-ltb a b (omega arith), eq-eqb b 0 z) (opens 2 3 (1 ∷ 1 ∷ []) (zero_bits (a - 1)) eleven)

  pub update-shrunk : b < a → (b ≡ 0 → ⊥) → update_bits a b ≡ number_bits 2 3 ++ unary_bits (a - b)
  unfolding update_bits
  update-shrunk h z = rw (ne_eqb a b (λ e. omega arith), le-ltb a b (omega arith), ne_eqb b 0 z) (opens 2 3 (1 ∷ 1 ∷ []) (unary_bits (a - b)) eleven)
