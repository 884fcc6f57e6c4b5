-- A zero run out of one word. Assumes nothing.
use Rattle.std.proofs.Common.{eq-eqb, ne_eqb, ◌≡◌, sym, ap, ◌∙◌, ⊎_elim, List, ℕ, ◌+◌, ◌-◌, ◌*◌, ◌/◌, ◌%◌, ◌^◌, ◌≤◌, ◌<◌, min, add-zero, arith, lit≤, pow_pos}
use native.Mathlib.Nat.{sub-zero}
use lib.Count.{count_leading_zeros, leading_length}
use Rattle.format.specs.Bits.{bits_at, bit_at}
use Rattle.format.specs.Reader.{Reader, Taken, skipped, find_of, run_of, unary_of, at_most, bit_length}
use Rattle.format.specs.Coefficients.{width_after, zeros_of}
use Rattle.format.proofs.BitLaws.{le-or-lt, bits-add, middle_of, lead-some, lead-one}
use Rattle.format.proofs.WordReads.{read-within, unary-within, find-within, find-nothing}
use Rattle.format.proofs.RunLaws.{exponent_lt, power_below, run-one, run_none, run-part}

-- a number below 2^31 has at most 31 bits
pub length-le : (x : ℕ) → x < 2 ^ 31 → bit_length x ≤ 31
length-le x small =
    let l = leading_length 64 x (omega arith) in
    let e : l.0 < 32 = exponent_lt l.0 32 (omega (arith, l.3)) in
    omega (arith, l.1, e)

-- and 0 has none
length_none : (x : ℕ) → x ≡ 0 → bit_length x ≡ 0
length_none x e =
    let l = leading_length 64 x (omega arith) in
    let none : l.0 < 1 = exponent_lt l.0 1 (omega (arith, l.3)) in
    omega (arith, l.1, none)

module _ (s : List ℕ) (r : Reader) (word g : ℕ) (fits : word < 2 ^ 64) (holds : word / 2 ^ 7 ≡ bits_at s r.place 57) (some : 0 < g) (below : g < 2 ^ 31) (go : r.status ≡ 0) where
  -- a run, and the width after it
  zeros_by : (run : Taken) → run ≡ run_of s r g → (next : Taken) → next ≡ width_after s (g - run.value) run.reader
      → zeros_of s g r ≡ record { groups = run.value; width = next.value; reader = next.reader }
  unfolding zeros_of
  zeros_by run e next f = simp (← e, ← f)

  after_none : (left : ℕ) (t : Reader) → left ≡ 0 → record { value = 0; reader = t } ≡ width_after s left t
  unfolding width_after
  after_none left t e = simp (eq-eqb left 0 e)

  after-some : (left : ℕ) (t : Reader) → 0 < left → unary_of s t ≡ width_after s left t
  unfolding width_after
  after-some left t h = simp (ne_eqb left 0 (λ e. omega arith))

  -- as many zeros as there can be
  pub run-all : bit_length (g - 1) ≤ count_leading_zeros 64 word → bit_length (g - 1) ≤ r.remaining
      → zeros_of s g r ≡ record { groups = g; width = 0; reader = skipped r (bit_length (g - 1)) }
  run-all lead enough =
      let k = bit_length (g - 1) in
      let short : k ≤ 31 = length-le (g - 1) (omega arith) in
      let zero : bits_at s r.place k ≡ 0 = lead-some s r.place word k 57 fits holds (lit≤ tt) lead (omega arith) in
      let run : record { value = g; reader = skipped r k } ≡ run_of s r g =
      ⊎_elim
      (λ (one : g ≤ 1).
      let e : k ≡ 0 = length_none (g - 1) (omega arith) in
      let stay : skipped r k ≡ r = simp (e, add-zero, sub-zero) in
      ap (λ (t : Reader). record { value = g; reader = t }) stay ∙ run-one s r g one)
      (λ (more : 1 < g). run_none s r g more (record { value = k; reader = skipped r k }) (sym (find-nothing s r k zero enough)) (omega arith))
      (le-or-lt g 1) in
      zeros_by (record { value = g; reader = skipped r k }) run (record { value = 0; reader = skipped r k }) (after_none (g - g) (skipped r k) (omega arith))

  -- z zeros and a one, and z bits
  module _ (z : ℕ) (lead : z ≡ count_leading_zeros 64 word) (found : z < bit_length (g - 1)) (inside : 2 * z + 1 ≤ 57) (enough : 2 * z + 1 ≤ r.remaining) where
    abbrev v : ℕ
    v = word * 2 ^ z % 2 ^ 64 / 2 ^ (63 - z)

    more : 1 < g
    more =
        ⊎_elim
        (λ (one : g ≤ 1).
        let e = length_none (g - 1) (omega arith) in
        absurd (omega (arith, e, found)))
        (λ (h : 1 < g). h)
        (le-or-lt g 1)

    zeros : bits_at s r.place z ≡ 0
    zeros = lead-some s r.place word z 57 fits holds (lit≤ tt) (omega arith) (omega arith)

    one : bit_at s (r.place + z) ≡ 1
    one = lead-one s r.place word z 57 fits holds (lit≤ tt) lead (omega arith)

    value-bits : v ≡ 2 ^ z + bits_at s (r.place + (z + 1)) z
    unfolding bits_at
    value-bits =
        let cut : 63 - z ≡ 64 - (1 + z) = omega arith in
        let bit : bits_at s (r.place + z) 1 ≡ 1 = simp (add-zero, one) in
        let at : r.place + z + 1 ≡ r.place + (z + 1) = omega arith in
        ap (λ (k : ℕ). word * 2 ^ z % 2 ^ 64 / 2 ^ k) cut ∙ middle_of s r.place word z (1 + z) 57 holds (omega arith) (lit≤ tt)
        ∙ bits-add s (r.place + z) 1 z ∙ simp (bit, at) (omega arith)

    past : skipped (skipped r (z + 1)) z ≡ skipped r (2 * z + 1)
    past =
        let p : r.place + (z + 1) + z ≡ r.place + (2 * z + 1) = omega arith in
        let q : r.remaining - (z + 1) - z ≡ r.remaining - (2 * z + 1) = omega arith in
        simp (p, q)

    run : record { value = min v g; reader = skipped r (2 * z + 1) } ≡ run_of s r g
    run =
        let found-z : record { value = z; reader = skipped r (z + 1) } ≡ find_of s r (bit_length (g - 1)) = sym (find-within s r z zeros one (omega arith) (bit_length (g - 1)) found) in
        let read = read-within s (skipped r (z + 1)) z (omega arith) in
        simp (value-bits, ← past) (ap (at_most g z) (sym read))
        ∙ run-part s r g more (record { value = z; reader = skipped r (z + 1) }) found-z found go (power_below g z more (omega arith) found)

    -- to the row's end
    pub run_end : g ≤ v → zeros_of s g r ≡ record { groups = g; width = 0; reader = skipped r (2 * z + 1) }
    run_end h =
        let e : min v g ≡ g = omega arith in
        let run-g : record { value = g; reader = skipped r (2 * z + 1) } ≡ run_of s r g = ap (λ (k : ℕ). record { value = k; reader = skipped r (2 * z + 1) }) (sym e) ∙ run in
        zeros_by (record { value = g; reader = skipped r (2 * z + 1) }) run-g (record { value = 0; reader = skipped r (2 * z + 1) }) (after_none (g - g) (skipped r (2 * z + 1)) (omega arith))

    -- and u zeros and a one
    pub run_more : v < g → (u : ℕ) → u ≡ count_leading_zeros 64 (word * 2 ^ (2 * z + 1) % 2 ^ 64) → 2 * z + u + 2 ≤ 57 → 2 * z + u + 2 ≤ r.remaining
        → (0 < v) × (zeros_of s g r ≡ record { groups = v; width = u + 1; reader = skipped r (2 * z + u + 2) })
    run_more h u leads short room =
        let e : min v g ≡ v = omega arith in
        let n = 2 * z + 1 in
        let x = word * 2 ^ n % 2 ^ 64 in
        let run-v : record { value = v; reader = skipped r n } ≡ run_of s r g = ap (λ (k : ℕ). record { value = k; reader = skipped r n }) (sym e) ∙ run in
        let rest : x / 2 ^ (64 - (57 - n)) ≡ bits_at s (r.place + n) (57 - n) = middle_of s r.place word n (57 - n) 57 holds (omega arith) (lit≤ tt) in
        let none = lead-some s (r.place + n) x u (57 - n) (omega arith) rest (omega arith) (omega arith) (omega arith) in
        let last = lead-one s (r.place + n) x u (57 - n) (omega arith) rest (omega arith) leads (omega arith) in
        let p : r.place + n + (u + 1) ≡ r.place + (2 * z + u + 2) = omega arith in
        let q : r.remaining - n - (u + 1) ≡ r.remaining - (2 * z + u + 2) = omega arith in
        let width : record { value = u + 1; reader = skipped r (2 * z + u + 2) } ≡ unary_of s (skipped r n) = simp (← p, ← q) (sym (unary-within s (skipped r n) u none last (omega arith))) in (
          omega (arith, value-bits, pow_pos z),
          zeros_by (record { value = v; reader = skipped r n }) run-v (record { value = u + 1; reader = skipped r (2 * z + u + 2) }) (width ∙ after-some (g - v) (skipped r n) (omega arith)),
        )
