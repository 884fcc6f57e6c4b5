-- How long codes, rows and records are at most. Assumes nothing.
use Rattle.std.proofs.Common.{◌≡◌, refl, ap, ◌∙◌, ⊎_elim, eq-or-lt_of_le, List, [], ◌∷◌, ◌++◌, zero, suc, ℕ, ◌+◌, ◌-◌, ◌*◌, ◌/◌, ◌^◌, ◌<◌, ◌≤◌, ℤ, pos, negsuc, Bool, true, false, eqb, length, length-append, take, drop, arith}
use Rattle.std.proofs.Math.ListN.{length-replicate}
use Rattle.lists.specs.Lists.{rows, row}
use Rattle.format.specs.Lifting.{Signal}
use Rattle.format.specs.Reader.{bit_length}
use Rattle.format.specs.Writing.{number_bits, zero_bits, unary_bits, update_bits, run_bits, sign_bits, signs_bits, next_bits, group_width, zero_groups, row_bits}
use Rattle.format.proofs.BitLaws.{le-or-lt}
use Rattle.encoding.specs.Numbers.{line, Small}
use Rattle.encoding.specs.Turn.{run_tail, turn_groups, tail_bits, rest_bits}
use Rattle.encoding.specs.Record.{total, rows_in, record_in}
use Rattle.codes.proofs.Pushed.{length-number}
use Rattle.encoding.proofs.Widths.{length_most, width-most, run-most, run-some, run_ends}
use Rattle.encoding.proofs.Runs.{update-kept, update-grown, update-gone, update-shrunk, code-whole, code-part, part-most}
use Rattle.encoding.proofs.Turns.{none_left, turn-some, turn-run, turn-group, tail-whole, tail-part, next_last, next_more, length-turn, row_of}
use Rattle.encoding.proofs.Records.{part_small, row-length, row-bits, record-none, record-some}

length-unary : (k : ℕ) → 1 ≤ k → length (unary_bits k) ≡ k
unfolding unary_bits
length-unary k h = omega (arith, length-append (zero_bits (k - 1)) (1 ∷ []), length-replicate {A = ℕ} (k - 1) 0)

length-update : (a b : ℕ) → a ≤ 32 → b ≤ 32 → length (update_bits a b) ≤ 40
length-update a b p q =
    ⊎_elim
    (λ (l : a ≤ b). ⊎_elim
    (λ (e : a ≡ b). omega (arith, ap length (update-kept a b e), length-replicate {A = ℕ} 1 0))
    (λ (k : a < b). omega (arith, ap length (update-grown a b k), length-append (number_bits 2 2) (unary_bits (b - a)), length-number 2 2, length-unary (b - a) (omega arith)))
    (eq-or-lt_of_le l))
    (λ (l : b < a). ⊎_elim
    (λ (z : b ≤ 0). omega (arith, ap length (update-gone a b l (omega arith)), length-append (number_bits 2 3) (zero_bits (a - 1)), length-number 2 3, length-replicate {A = ℕ} (a - 1) 0))
    (λ (k : 0 < b). omega (arith, ap length (update-shrunk a b l (λ z. omega arith)), length-append (number_bits 2 3) (unary_bits (a - b)), length-number 2 3, length-unary (a - b) (omega arith)))
    (le-or-lt b 0))
    (le-or-lt a b)

length-run : (g k : ℕ) → 1 ≤ k → k ≤ g → g < 2 ^ 16 → length (run_bits g k) ≤ 32
length-run g k some most fits =
    ⊎_elim
    (λ (e : k ≡ g). omega (arith, ap length (code-whole g k e), length-replicate {A = ℕ} (bit_length (g - 1)) 0, length_most (g - 1) (omega arith) 16 (omega arith)))
    (λ (l : k < g).
    let z = bit_length k - 1 in
    omega (arith, ap length (code-part g k (omega arith) l fits), length-number (z + 1 + z) k, (part-most k (omega arith)).0))
    (eq-or-lt_of_le most)

length-tail : (g k next : ℕ) → 1 ≤ k → k ≤ g → g < 2 ^ 16 → next ≤ 19 → (k < g → 1 ≤ next) → length (run_tail g k next) ≤ 56
length-tail g k next some most fits less more =
    ⊎_elim
    (λ (e : k ≡ g). omega (arith, ap length (tail-whole g k next e), length-run g k some most fits))
    (λ (l : k < g). omega (arith, ap length (tail-part g k next (λ e. omega arith)), length-append (run_bits g k) (unary_bits next), length-run g k some most fits, length-unary next (more l)))
    (eq-or-lt_of_le most)

length-sign : (z : ℤ) → length (sign_bits z) ≤ 1
length-sign (pos zero) = omega arith
length-sign (pos (suc n)) = omega arith
length-sign (negsuc n) = omega arith

module _ (f : Signal) (small : Small f) where
  length-signs : (j : ℕ) → length (signs_bits f j) ≤ 4
  length-signs j =
      let a = sign_bits (f (4 * j)) in
      let b = sign_bits (f (4 * j + 1)) in
      let c = sign_bits (f (4 * j + 2)) in
      let d = sign_bits (f (4 * j + 3)) in
      omega (arith, length-append a (b ++ (c ++ d)), length-append b (c ++ d), length-append c d, length-sign (f (4 * j)), length-sign (f (4 * j + 1)), length-sign (f (4 * j + 2)), length-sign (f (4 * j + 3)))

  length-next : (j g : ℕ) → length (next_bits f j g) ≤ 40
  length-next j g =
      ⊎_elim
      (λ (l : g ≤ 1). omega (arith, ap length (next_last f j g l)))
      (λ (l : 1 < g). omega (arith, ap length (next_more f j g l), length-update (group_width f j) (group_width f (j + 1)) (omega (arith, width-most f small j)) (omega (arith, width-most f small (j + 1)))))
      (le-or-lt g 1)

  -- behind the values of a turn
  length-behind : (j g : ℕ) → 0 < g → j + g < 2 ^ 16 → (length (tail_bits f j g) ≤ 56) × (turn_groups f j g ≤ g)
  length-behind j g some fits =
      ⊎_elim
      (λ (l : group_width f j ≤ 0).
      let e : group_width f j ≡ 0 = omega arith in
      let r = turn-run f j g e in
      let k = zero_groups f j g in
      let m = run-most f j g in
      (omega (arith, ap length r.1, length-tail g k (group_width f (j + k)) (run-some f j g e some) m (omega arith) (width-most f small (j + k)) (run_ends f j g)), omega (arith, r.0, m)))
      (λ (l : 0 < group_width f j).
      let r = turn-group f j g (λ z. omega arith) in
      (omega (arith, ap length r.1, length-append (next_bits f j g) (signs_bits f j), length-next j g, length-signs j), omega (arith, r.0)))
      (le-or-lt (group_width f j) 0)

  length-rest : (n j g : ℕ) → g ≤ n → j + g < 2 ^ 16 → length (rest_bits f j g) ≤ 132 * g
  length-rest zero j g l fits =
      let z : g ≡ 0 = omega arith in
      omega (arith, ap length (ap (rest_bits f j) z ∙ none_left f 0 j))
  length-rest (suc n) j g l fits =
      ⊎_elim
      (λ (e : g ≤ 0). let z : g ≡ 0 = omega arith in omega (arith, ap length (ap (rest_bits f j) z ∙ none_left f 0 j)))
      (λ (some : 0 < g).
      let k = turn_groups f j g in
      let b = length-behind j g some fits in
      let s = turn-some f j g some in
      let i = length-rest n (j + k) (g - k) (omega arith) (omega (arith, b.1)) in
      omega (arith, length-turn f j g some, b.0, b.1, s, i, width-most f small j))
      (le-or-lt g 0)

length-row : (l : List ℤ) → length l < 2 ^ 16 → Small (line l) → length (row_bits (length l) (line l)) ≤ 2 ^ 24
length-row l fits small =
    let f = line l in
    let g = (length l + 3) / 4 in
    omega (arith, ap length (row_of l), length-append (update_bits 0 (group_width f 0)) (rest_bits f 0 g), length-update 0 (group_width f 0) (omega arith) (omega (arith, width-most f small 0)), length-rest f small g 0 g (omega arith) (omega arith))

length-rows : (m n : ℕ) (g : ℕ → List ℕ) → ((q : ℕ) → q < n → length (g q) ≤ m) → length (rows n g) ≤ n * m
unfolding rows
length-rows m zero g h = omega arith
length-rows m (suc n) g h = omega (arith, length-append (rows n g) (g n), length-rows m n g (λ q l. h q (omega arith)), h n (omega arith))

module _ (cols n : ℕ) (l : List ℤ) (narrow : cols < 2 ^ 16) (long : length l ≡ n * cols) (small : Small (line l)) where
  length-in : length (rows_in cols l n) ≤ n * 2 ^ 24
  length-in =
      length-rows (2 ^ 24) n (λ q. row_bits cols (line (row cols l q)))
      (λ q less.
      let a = q * cols in
      let part = take (a + cols - a) (drop a l) in
      let e = row-length l cols n q a long less refl in
      omega (arith, ap length (row-bits l cols n q a long less refl), length-row part (omega (arith, e)) (part_small l a (a + cols - a) small)))

  pub length-record : length (record_in cols n l) ≤ n * 2 ^ 24
  length-record = by (eqb (total l) 0) refl
    where
      by : (b : Bool) → eqb (total l) 0 ≡ b → length (record_in cols n l) ≤ n * 2 ^ 24
      by true e = rw (record-none cols n l e) (omega arith)
      by false e = rw (record-some cols n l e) length-in
