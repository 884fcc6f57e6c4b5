-- Bits used: what each read takes, that a record's rows take no more than its allowance, what rows take once a status is set, and that the
-- records of a tile take what the tile does. Assumes nothing.
use Rattle.std.proofs.Common.{◌≡◌, refl, sym, ap, ◌∙◌, List, ◌&&◌, ℕ, zero, suc, ◌+◌, ◌-◌, ◌*◌, ◌/◌, ◌≤◌, ◌<◌, min, arith, leb, ltb, eqb, ne_eqb, lt-ltb, leb-true, leb-false, ltb-true, ltb-false}
use Rattle.wrap32.proofs.Laws.{of-cond}
use Rattle.format.specs.Bits.{zeros_at}
use Rattle.format.specs.Sizes.{group_in, colour_in, multiplier, columns}
use Rattle.format.specs.Strip.{width}
use Rattle.format.specs.Packets.{sum, kind, blocks, record_length, selector, payload_at}
use Rattle.format.specs.Reader.{Reader, Taken, allowance, start_of, read_of, unary_of, find_of, update_first, update_of}
use Rattle.format.specs.Coefficients.{Part, row_step, row_from, row_of, rows_of}
use Rattle.format.specs.Used.{row_used, rows_used, record_used, packet_used, group_used, bits_of, packet_in, has_record, Inspected, inspected}
use Rattle.format.proofs.Numbered.{number_in, index_in, packets-sum}
use Rattle.format.proofs.StatusLaws.{Moves, ◌then◌, rows_on, after, rows-move, after-low}
use Rattle.format.proofs.TurnLaws.{sum_same}

-- ---- one read
module _ (s : List ℕ) (r : Reader) where
  -- n bits take n, or what is left
  pub read-used : (n : ℕ) → r.remaining - (read_of s r n).reader.remaining ≡ min n r.remaining
  unfolding read_of
  read-used n =
      of-cond (λ (t : Taken). r.remaining - t.reader.remaining ≡ min n r.remaining) (leb n r.remaining) _ _
      (λ h. omega (arith, leb-true n r.remaining h))
      (λ h. omega (arith, leb-false n r.remaining h))

  -- a unary takes its zeros and the one, or what is left
  pub unary-used : r.remaining - (unary_of s r).reader.remaining ≡ min (zeros_at s r.place r.remaining + 1) r.remaining
  unfolding unary_of
  unary-used =
      let z = zeros_at s r.place r.remaining in
      of-cond (λ (t : Taken). r.remaining - t.reader.remaining ≡ min (z + 1) r.remaining) (ltb z r.remaining) _ _
      (λ h. omega (arith, ltb-true z r.remaining h))
      (λ h. omega (arith, ltb-false z r.remaining h))

  -- a search through k bits takes the zeros and the one, or all k, or what is left
  pub find-used : (k : ℕ)
      → r.remaining - (find_of s r k).reader.remaining ≡ min (zeros_at s r.place (min k r.remaining) + 1) (min k r.remaining)
  unfolding find_of
  find-used k =
      let n = min k r.remaining in
      let z = zeros_at s r.place n in
      of-cond (λ (t : Taken). r.remaining - t.reader.remaining ≡ min (z + 1) n) (ltb z n) _ _
      (λ h. omega (arith, ltb-true z n h))
      (λ h.
      of-cond (λ (q : Reader). r.remaining - q.remaining ≡ min (z + 1) n) (leb k r.remaining) _ _
      (λ l. omega (arith, ltb-false z n h, leb-true k r.remaining l))
      (λ l. omega (arith, ltb-false z n h, leb-false k r.remaining l)))

-- ---- a row whose reader has a status that is set: its opening read alone, one bit where one is left
module _ (s : List ℕ) where
  read_set : (r : Reader) (n : ℕ) → (r.status ≡ 0 → ⊥) → (read_of s r n).reader.status ≡ 0 → ⊥
  unfolding read_of
  read_set r n set =
      of-cond (λ (t : Taken). t.reader.status ≡ 0 → ⊥) (leb n r.remaining) _ _ (λ _. set) (λ _ e. omega (arith, e))

  opening : (r : Reader) (w : ℕ) → (r.status ≡ 0 → ⊥) → (update_of s r w).reader ≡ (read_of s r 1).reader
  unfolding update_of update_first
  opening r w set =
      let a = read_of s r 1 in
      of-cond (λ (t : Taken). t.reader ≡ a.reader) (eqb a.value 0) _ _ (λ _. refl) (λ _. rw (ne_eqb _ _ (read_set r 1 set)) refl)

  from-left : (sel turns g : ℕ) (t : Taken) → (t.reader.status ≡ 0 → ⊥) → (row_from s sel turns g t).reader.remaining ≡ t.reader.remaining
  unfolding row_from row_step
  from-left sel zero g t set = refl
  from-left sel (suc turns) g t set =
      of-cond (λ (p : Part). p.reader.remaining ≡ t.reader.remaining) (eqb g 0) _ _ (λ _. refl) (λ _. rw (ne_eqb _ _ set) refl)

  read_left : (r : Reader) → (read_of s r 1).reader.remaining ≡ r.remaining - 1
  unfolding read_of
  read_left r =
      of-cond (λ (t : Taken). t.reader.remaining ≡ r.remaining - 1) (leb 1 r.remaining) _ _ (λ _. refl)
      (λ h. omega (arith, leb-false 1 r.remaining h))

  row-left : (sel n : ℕ) (r : Reader) → (r.status ≡ 0 → ⊥) → (row_of s sel n r).reader.remaining ≡ r.remaining - 1
  unfolding row_of
  row-left sel n r set =
      let first : (update_of s r 0).reader ≡ (read_of s r 1).reader = opening r 0 set in
      let still = from-left sel ((n + 3) / 4) ((n + 3) / 4) (update_of s r 0) (rw first (read_set r 1 set)) in
      still ∙ ap (λ (q : Reader). q.remaining) first ∙ read_left r

-- ---- rows one after the other
module _ (s : List ℕ) (sel : ℕ → ℕ) (m cols : ℕ) (r : Reader) (fresh : r.status ≡ 0) where
  abbrev at : ℕ → Reader
  at n = after s sel m cols r fresh n

  abbrev used : ℕ → ℕ
  used n = rows_used s sel m cols n r

  all-move : (n : ℕ) → Moves r (at n)
  unfolding rows_of
  all-move zero = record { up = λ h. (omega arith, h); left = omega arith; end = refl }
  all-move (suc n) = all-move n then rows-move s sel m cols r fresh n

  -- a row more
  pub used-none : used 0 ≡ 0
  unfolding rows_used sum
  used-none = refl

  pub used-on : (n : ℕ) → used (suc n) ≡ used n + row_used s (sel (n / m)) cols (at n)
  unfolding rows_used sum
  used-on n = refl

  -- what the rows took is what is no longer left, and how far the reader came
  pub used-left : (n : ℕ) → used n + (at n).remaining ≡ r.remaining
  unfolding rows_of row_used
  used-left zero = omega (arith, used-none)
  used-left (suc n) =
      let e : at (suc n) ≡ (row_of s (sel (n / m)) cols (at n)).reader = rows_on s sel m cols n 0 r ∙ ap (λ (k : ℕ). (row_of s (sel (k / m)) cols (at n)).reader) (plain n) in
      let one : row_used s (sel (n / m)) cols (at n) ≡ (at n).remaining - (at (suc n)).remaining = ap (λ (q : Reader). (at n).remaining - q.remaining) (sym e) in
      omega (arith, used-left n, used-on n, one, (rows-move s sel m cols r fresh n).left)
    where
      plain : (n : ℕ) → 0 + n ≡ n
      plain n = omega arith

  pub used-moved : (n : ℕ) → (at n).place ≡ r.place + used n
  used-moved n = omega (arith, used-left n, (all-move n).end, (all-move n).left)

  -- no more than the allowance
  pub used-most : (n : ℕ) → used n ≤ r.remaining
  used-most n = omega (arith, used-left n)

  -- once a status is set, the rows after it take a bit each as long as bits are left
  module _ (k : ℕ) (set : (at k).status ≡ 0 → ⊥) where
    still-set : (j : ℕ) → (at (k + j)).status ≡ 0 → ⊥
    still-set zero e = let z : k + 0 ≡ k = omega arith in set (rw z at e)
    still-set (suc j) e =
        let n : k + suc j ≡ suc (k + j) = omega arith in
        let up = (rows-move s sel m cols r fresh (k + j)).up (after-low s sel m cols r fresh (k + j)) in
        still-set j (omega (arith, up.0, ap (λ (x : ℕ). (at x).status) n, e))

    left_after : (j : ℕ) → (at (k + j)).remaining ≡ (at k).remaining - j
    left_after zero = let z : k + 0 ≡ k = omega arith in rw z (omega arith)
    left_after (suc j) =
        let n : k + suc j ≡ suc (k + j) = omega arith in
        let row = row-left s (sel ((0 + (k + j)) / m)) cols (at (k + j)) (still-set j) in
        ap (λ (x : ℕ). (at x).remaining) n
        ∙ ap (λ (q : Reader). q.remaining) (rows_on s sel m cols (k + j) 0 r)
        ∙ omega (arith, row, left_after j)

    pub used-stopped : (j : ℕ) → used (k + j) ≡ used k + min j (at k).remaining
    used-stopped j = omega (arith, used-left (k + j), used-left k, left_after j)

-- ---- records, packets, the tile
module _ (p : List ℕ) (m cols : ℕ) where
  -- a record takes no more than its allowance
  pub record-most : (i : ℕ) → record_used p m cols i ≤ allowance (record_length p i)
  unfolding record_used
  record-most i =
      of-cond (λ (n : ℕ). n ≤ allowance (record_length p i)) (eqb (record_length p i) 0) _ _ (λ _. omega arith)
      (λ _. used-most p (selector p i) m cols (start_of (payload_at p i) (record_length p i)) refl (kind p * m))

-- the answer for one record, and that the bits of all of them, told one by one, are the tile's
module _ (s : List ℕ) where
  pub told-most : (refusal q i : ℕ) → (inspected s refusal q i).bits ≤ (inspected s refusal q i).allowance
  unfolding inspected
  told-most refusal q i =
      of-cond (λ (a : Inspected). a.bits ≤ a.allowance) (eqb refusal 0 && has_record s q i) _ _ (λ _. record-most (packet_in s q) _ _ i) (λ _. omega arith)

  packet-told : (q : ℕ) → q < 13 → sum (λ i. (inspected s 0 q i).bits) (blocks (packet_in s q)) ≡ group_used s (group_in q) (colour_in q)
  unfolding group_used packet_used inspected has_record
  packet-told q h =
      rw (number_in q h, index_in q h) (sum_same _ _ (blocks (packet_in s q)) (λ i b. told i b))
    where
      told : (i : ℕ) → i < blocks (packet_in s q) → (inspected s 0 q i).bits ≡ record_used (packet_in s q) (multiplier (group_in q)) (columns (width s) (group_in q)) i
      told i b = rw (lt-ltb q 13 h, lt-ltb i (blocks (packet_in s q)) b) refl

  pub tile-told : sum (λ q. sum (λ i. (inspected s 0 q i).bits) (blocks (packet_in s q))) 13 ≡ bits_of s
  unfolding bits_of
  tile-told = sum_same _ _ 13 packet-told ∙ packets-sum (group_used s)
