-- A record's bits are decoded to its rows, its status 0. Assumes nothing.
use Rattle.std.proofs.Common.{◌≡◌, sym, ap, ◌∙◌, subst, List, ◌++◌, append-nil, append_assoc, ℕ, zero, suc, ◌+◌, ◌*◌, ◌/◌, ◌^◌, ◌<◌, eq-or-lt_of_le, le_of_suc-le-suc, arith, ◌⊎◌, inl, inr, pos, nat_abs, length, length-append, eqb, ltb}
use Rattle.std.proofs.lemmas.List.{replicate-append-replicate}
use Rattle.wrap32.proofs.Laws.{of-cond}
use Rattle.lists.specs.Lists.{tab, rows}
use Rattle.format.specs.Lifting.{Signal, Plane}
use Rattle.format.specs.Packets.{sum}
use Rattle.format.specs.Reader.{Reader}
use Rattle.format.specs.Coefficients.{zeros, rows_of}
use Rattle.format.specs.Writing.{update_bits, group_width, groups_bits, padded, row_bits, record_row, magnitudes}
use Rattle.writing.proofs.Standing.{At, past, past-both, past-none, at_left, at_right}
use Rattle.writing.proofs.RowBack.{row_back, tab-zero, part-is, none_of}

-- ---- rows from the first on
module _ {A : Type 0} where
  pub rows-first : (n : ℕ) (g : ℕ → List A) → rows (suc n) g ≡ g 0 ++ rows n (λ k. g (suc k))
  unfolding rows
  rows-first zero g = sym (append-nil (g 0))
  rows-first (suc n) g = ap (λ (l : List A). l ++ g (suc n)) (rows-first n g) ∙ append_assoc (g 0) (rows n (λ k. g (suc k))) (g (suc n))

-- ---- n rows from row k on, by one reader; selectors are 0
module _ (s : List ℕ) (sel : ℕ → ℕ) (m cols : ℕ) (fits : cols < 2 ^ 64) (f : ℕ → Signal) where
  pub rows_back : (n k : ℕ) (r : Reader) → ((q : ℕ) → q < n → sel ((k + q) / m) ≡ 0) → ((q x : ℕ) → q < n → x < cols → nat_abs (f (k + q) x) < 2 ^ 19)
      → At s r (rows n (λ q. row_bits cols (f (k + q))))
      → rows_of s sel m cols n k r ≡ record { values = rows n (λ q. tab cols (f (k + q))); reader = past r (rows n (λ q. row_bits cols (f (k + q)))) }
  unfolding rows_of rows
  rows_back zero k r z small h = rw (past-none r)
  rows_back (suc n) k r z small h =
      let first : k + 0 ≡ k = omega arith in
      let on : (q : ℕ) → k + suc q ≡ suc k + q = λ q. omega arith in
      let A = row_bits cols (f k) in
      let B = rows n (λ q. row_bits cols (f (suc k + q))) in
      let bits : rows (suc n) (λ q. row_bits cols (f (k + q))) ≡ A ++ B =
      rows-first n (λ q. row_bits cols (f (k + q))) ∙ (λ i. row_bits cols (f (first i)) ++ rows n (λ q. row_bits cols (f (on q i)))) in
      let values : rows (suc n) (λ q. tab cols (f (k + q))) ≡ tab cols (f k) ++ rows n (λ q. tab cols (f (suc k + q))) =
      rows-first n (λ q. tab cols (f (k + q))) ∙ (λ i. tab cols (f (first i)) ++ rows n (λ q. tab cols (f (on q i)))) in
      let h' : At s r (A ++ B) = rw bits at h in
      let s0 : sel (k / m) ≡ 0 = ap (λ (j : ℕ). sel (j / m)) (sym first) ∙ z 0 (omega arith) in
      let small0 : (x : ℕ) → x < cols → nat_abs (f k x) < 2 ^ 19 = λ x l. rw (← first) (small 0 x (omega arith) l) in
      let head = row_back s cols (f k) r fits small0 (at_left s r A B h') in
      let rest = rows_back n (suc k) (past r A) (λ q l. rw (← on q) (z (suc q) (omega arith))) (λ q x l j. rw (← on q) (small (suc q) x (omega arith) j)) (at_right s r A B h') in
      rw (s0, head, rest) (part-is _ _ _ _ (sym values) (past-both r A B ∙ ap (past r) (sym bits)))

  -- from the first on
  pub all_back : (n : ℕ) (r : Reader) → ((q : ℕ) → q < n → sel (q / m) ≡ 0) → ((q x : ℕ) → q < n → x < cols → nat_abs (f q x) < 2 ^ 19)
      → At s r (rows n (λ q. row_bits cols (f q)))
      → rows_of s sel m cols n 0 r ≡ record { values = rows n (λ q. tab cols (f q)); reader = past r (rows n (λ q. row_bits cols (f q))) }
  all_back n r z small =
      let e : (q : ℕ) → 0 + q ≡ q = λ q. omega arith in
      subst (λ (h : ℕ → Signal). At s r (rows n (λ q. row_bits cols (h q))) → rows_of s sel m cols n 0 r ≡ record { values = rows n (λ q. tab cols (h q)); reader = past r (rows n (λ q. row_bits cols (h q))) })
      (λ j q. f (e q j))
      (rows_back n 0 r (λ q l. rw (e q) (z q l)) (λ q x l b. rw (e q) (small q x l b)))

-- ---- an all-zero record
pub sum-zero : (f : ℕ → ℕ) (n : ℕ) → sum f n ≡ 0 → (k : ℕ) → k < n → f k ≡ 0
unfolding sum
sum-zero f zero e k l = absurd (omega arith)
sum-zero f (suc n) e k l = by (eq-or-lt_of_le (le_of_suc-le-suc l)) (λ q. sum-zero f n (omega arith) k q)
  where
    by : (k ≡ n) ⊎ (k < n) → (k < n → f k ≡ 0) → f k ≡ 0
    by (inl q) g = ap f q ∙ omega arith
    by (inr q) g = g q

zero-rows : (n cols : ℕ) (f : ℕ → Signal) → ((q x : ℕ) → q < n → x < cols → f q x ≡ pos 0) → rows n (λ q. tab cols (f q)) ≡ zeros (n * cols)
unfolding rows
zero-rows zero cols f h = let e : 0 ≡ 0 * cols = omega arith in ap zeros e
zero-rows (suc n) cols f h =
    let e : n * cols + cols ≡ suc n * cols = omega arith in
    rw (zero-rows n cols f (λ q x l j. h q x (omega arith) j), tab-zero cols (f n) (λ x j. h n x (omega arith) j))
    (replicate-append-replicate (n * cols) cols (pos 0) ∙ ap zeros e)

pub zero-record : (v : ℕ → Plane) (m cols n k : ℕ) → magnitudes v m cols n k ≡ 0 → rows n (λ q. tab cols (record_row v m k q)) ≡ zeros (n * cols)
unfolding magnitudes
zero-record v m cols n k e =
    zero-rows n cols (record_row v m k) (λ q x l j. none_of _ (sum-zero (λ x. nat_abs (record_row v m k q x)) cols (sum-zero _ n e q l) x j))

-- any other has bits
update-some : (a b : ℕ) → 0 < length (update_bits a b)
unfolding update_bits
update-some a b =
    of-cond (λ (u : List ℕ). 0 < length u) (eqb a b) _ _ (λ _. omega arith) λ _.
    of-cond (λ (u : List ℕ). 0 < length u) (ltb a b) _ _ (λ _. omega arith) (λ _. omega arith)

row-some : (n : ℕ) (f : Signal) → 0 < length (row_bits n f)
unfolding row_bits
row-some n f =
    omega (arith, length-append (update_bits 0 (group_width (padded n f) 0)) (groups_bits (padded n f) ((n + 3) / 4) 0 ((n + 3) / 4)), update-some 0 (group_width (padded n f) 0))

pub rows-some : (n cols : ℕ) (f : ℕ → Signal) → 0 < n → 0 < length (rows n (λ q. row_bits cols (f q)))
unfolding rows
rows-some zero cols f h = absurd (omega arith)
rows-some (suc n) cols f h =
    omega (arith, length-append (rows n (λ q. row_bits cols (f q))) (row_bits cols (f n)), row-some cols (f n))
