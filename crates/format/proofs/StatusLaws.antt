-- How a record's reader moves, and that stopped records are the broken and the spent ones. Assumes nothing.
use Rattle.std.proofs.Common.{◌≡◌, refl, sym, ap, ◌∙◌, List, ◌++◌, Bool, true, false, cond, ℕ, zero, suc, ◌+◌, ◌-◌, ◌*◌, ◌/◌, ◌^◌, ◌≤◌, min, zero-mul, suc-mul, add_comm, add-one, arith, leb, ltb, eqb, ℤ, pos, take, take_at, eq-eqb, ne_eqb}
use Rattle.std.proofs.Common.{eqb-true, leb-true, ltb-true}
use Rattle.std.proofs.lemmas.List.{length-replicate, replicate-append-replicate}
use Rattle.std.specs.Int.Signed.{lt_z}
use Rattle.wrap32.proofs.Laws.{of-cond}
use Rattle.format.specs.Bits.{zeros_at}
use Rattle.format.specs.Sizes.{Colour, green, red, blue, l1, l2, l3, Group, base, detail, final}
use Rattle.format.specs.Packets.{kind, blocks, record_length, selector, payload_at}
use Rattle.format.specs.Refusals.{◌▷◌, each}
use Rattle.format.specs.Reader.{Reader, Taken, start_of, skipped, spent, read_of, unary_of, find_of, update_second, update_first, update_of, run_found, run_of, bit_length}
use Rattle.format.specs.Coefficients.{Signed, Four, Part, Stretch, zeros, stopped, sign_of, four_of, signs_of, width_next, group_of, width_after, zeros_of, row_step, row_from, row_of, rows_of, coded_record, record_of, packet_stopped, group_stopped, plane_sum, tile_sum, stopped_of}
use Rattle.format.specs.Counts.{first_status, record_status, goes_by, packet_count, group_count, broken_of, spent_of}
use Rattle.format.proofs.TurnLaws.{both-none, sum_both}

-- ---- from one reader to a later one: the status stays or rises, to 2 at most; the place comes nearer to the end of the allowance, which stays
pub record Moves (r q : Reader) : Type 0 where
  pub up : r.status ≤ 2 → (r.status ≤ q.status) × (q.status ≤ 2)
  pub left : q.remaining ≤ r.remaining
  pub end : q.place + q.remaining ≡ r.place + r.remaining

stays : {r : Reader} → Moves r r
stays = record { up = λ h. (omega arith, omega arith); left = omega arith; end = refl }

on : {r : Reader} (n : ℕ) → n ≤ r.remaining → Moves r (skipped r n)
on n h = record { up = λ k. (omega arith, omega arith); left = omega arith; end = omega arith }

out : {r : Reader} → Moves r (spent r)
out = record { up = λ h. (omega arith, omega arith); left = omega arith; end = omega arith }

infixr 20 ◌then◌
pub ◌then◌ : {r q t : Reader} → Moves r q → Moves q t → Moves r t
◌then◌ f g =
    record {
      up = λ h.
          let a = f.up h in
          let b = g.up a.1 in
          (omega (arith, a.0, b.0), b.1);
      left = omega (arith, f.left, g.left);
      end = g.end ∙ f.end;
    }

take-zeros : (n k : ℕ) → n ≤ k → take n (zeros k) ≡ zeros n
take-zeros n k h =
    let split : k ≡ n + (k - n) = omega arith in
    ap (λ (x : ℕ). take n (zeros x)) split
    ∙ ap (take n) (sym (replicate-append-replicate n (k - n) (pos 0)))
    ∙ take_at (zeros n) (zeros (k - n)) n (length-replicate n (pos 0))

module _ (s : List ℕ) where
  read-moves : (r : Reader) (n : ℕ) → Moves r (read_of s r n).reader
  unfolding read_of
  read-moves r n = of-cond (λ (t : Taken). Moves r t.reader) (leb n r.remaining) _ _ (λ h. on n (leb-true n r.remaining h)) (λ _. out)

  unary-moves : (r : Reader) → Moves r (unary_of s r).reader
  unfolding unary_of
  unary-moves r =
      let z = zeros_at s r.place r.remaining in
      of-cond (λ (t : Taken). Moves r t.reader) (ltb z r.remaining) _ _ (λ h. on (z + 1) (omega (arith, ltb-true z r.remaining h))) (λ _. out)

  find-moves : (r : Reader) (k : ℕ) → Moves r (find_of s r k).reader
  unfolding find_of
  find-moves r k =
      let n = min k r.remaining in
      let z = zeros_at s r.place n in
      of-cond (λ (t : Taken). Moves r t.reader) (ltb z n) _ _ (λ h. on (z + 1) (omega (arith, ltb-true z n h)))
      (λ _. of-cond (Moves r) (leb k r.remaining) _ _ (λ h. on k (leb-true k r.remaining h)) (λ _. out))

  second-moves : (w : ℕ) (b : Taken) → Moves b.reader (update_second s w b).reader
  unfolding update_second
  second-moves w b =
      of-cond (λ (t : Taken). Moves b.reader t.reader) (eqb b.reader.status 0) _ _
      (λ _. of-cond (λ (t : Taken). Moves b.reader t.reader) (eqb b.value 0) _ _ (λ _. unary-moves b.reader) (λ _. find-moves b.reader _))
      (λ _. stays)

  first-moves : (w : ℕ) (a : Taken) → Moves a.reader (update_first s w a).reader
  unfolding update_first
  first-moves w a =
      of-cond (λ (t : Taken). Moves a.reader t.reader) (eqb a.value 0) _ _ (λ _. stays)
      (λ _.
      of-cond (λ (t : Taken). Moves a.reader t.reader) (eqb a.reader.status 0) _ _
      (λ _. read-moves a.reader 1 then second-moves w (read_of s a.reader 1))
      (λ _. stays))

  update-moves : (r : Reader) (w : ℕ) → Moves r (update_of s r w).reader
  unfolding update_of
  update-moves r w = read-moves r 1 then first-moves w (read_of s r 1)

  found-moves : (g : ℕ) (t : Taken) → Moves t.reader (run_found s g t).reader
  unfolding run_found
  found-moves g t =
      of-cond (λ (u : Taken). Moves t.reader u.reader) (leb (bit_length (g - 1)) t.value) _ _ (λ _. stays)
      (λ _.
      of-cond (λ (u : Taken). Moves t.reader u.reader) (eqb t.reader.status 0) _ _
      (λ _. of-cond (λ (u : Taken). Moves t.reader u.reader) (leb g (2 ^ t.value)) _ _ (λ _. stays) (λ _. read-moves t.reader t.value))
      (λ _. stays))

  run-moves : (r : Reader) (g : ℕ) → Moves r (run_of s r g).reader
  unfolding run_of
  run-moves r g =
      of-cond (λ (t : Taken). Moves r t.reader) (leb g 1) _ _ (λ _. stays)
      (λ _. find-moves r _ then found-moves g (find_of s r _))

  sign-moves : (z : ℤ) (r : Reader) → Moves r (sign_of s z r).reader
  unfolding sign_of
  sign-moves z r = of-cond (λ (t : Signed). Moves r t.reader) (lt_z (pos 0) z) _ _ (λ _. read-moves r 1) (λ _. stays)

  four-moves : (r : Reader) (n : ℕ) → Moves r (four_of s r n).reader
  unfolding four_of
  four-moves r n = read-moves r n then read-moves _ n then read-moves _ n then read-moves _ n

  signs-move : (sel : ℕ) (q : Four) (r : Reader) → Moves r (signs_of s sel q r).reader
  unfolding signs_of
  signs-move sel q r = sign-moves _ r then sign-moves _ _ then sign-moves _ _ then sign-moves _ _

  next-moves : (g w : ℕ) (r : Reader) → Moves r (width_next s g w r).reader
  unfolding width_next
  next-moves g w r = of-cond (λ (t : Taken). Moves r t.reader) (leb g 1) _ _ (λ _. stays) (λ _. update-moves r w)

  group-moves : (sel g : ℕ) (t : Taken) → Moves t.reader (group_of s sel g t).reader
  unfolding group_of
  group-moves sel g t = four-moves t.reader t.value then next-moves g t.value _ then signs-move sel _ _

  after-moves : (left : ℕ) (r : Reader) → Moves r (width_after s left r).reader
  unfolding width_after
  after-moves left r = of-cond (λ (t : Taken). Moves r t.reader) (eqb left 0) _ _ (λ _. stays) (λ _. unary-moves r)

  zeros-move : (g : ℕ) (r : Reader) → Moves r (zeros_of s g r).reader
  unfolding zeros_of
  zeros-move g r = run-moves r g then after-moves _ _

  -- ---- a row
  step-moves : (rest : ℕ → Taken → Part) → ((g : ℕ) (t : Taken) → Moves t.reader (rest g t).reader)
      → (sel g : ℕ) (t : Taken) → Moves t.reader (row_step rest s sel g t).reader
  unfolding row_step
  step-moves rest onward sel g t =
      of-cond (λ (p : Part). Moves r p.reader) (eqb g 0) _ _ (λ _. stays)
      (λ _.
      of-cond (λ (p : Part). Moves r p.reader) (eqb r.status 0) _ _
      (λ _.
      of-cond (λ (p : Part). Moves r p.reader) (leb t.value 19) _ _
      (λ _.
      of-cond (λ (p : Part). Moves r p.reader) (eqb t.value 0) _ _
      (λ _. zeros-move g r then onward _ _)
      (λ _. group-moves sel g t then onward _ _))
      (λ _. stop))
      (λ _. stop))
    where
      r : Reader
      r = t.reader

      stop : Moves r (stopped r)
      stop =
          of-cond (λ (n : ℕ). Moves r (record { place = r.place; remaining = r.remaining; status = n })) (eqb r.status 0) 1 r.status
          (λ z. record { up = λ h. (omega (arith, eqb-true r.status 0 z), omega arith); left = omega arith; end = refl }) (λ _. stays)

  from-moves : (sel turns g : ℕ) (t : Taken) → Moves t.reader (row_from s sel turns g t).reader
  unfolding row_from
  from-moves sel zero g t = stays
  from-moves sel (suc turns) g t = step-moves (row_from s sel turns) (from-moves sel turns) sel g t

  pub row-moves : (sel n : ℕ) (r : Reader) → Moves r (row_of s sel n r).reader
  unfolding row_of
  row-moves sel n r = update-moves r 0 then from-moves sel _ _ _

  -- after the row's opening update a status that is set stays to the row's end
  pub row_keeps : (sel turns g : ℕ) (t : Taken) → (t.reader.status ≡ 0 → ⊥) → (row_from s sel turns g t).reader.status ≡ t.reader.status
  unfolding row_from row_step
  row_keeps sel zero g t set = refl
  row_keeps sel (suc turns) g t set =
      of-cond (λ (p : Part). p.reader.status ≡ t.reader.status) (eqb g 0) _ _ (λ _. refl) (λ _. rw (ne_eqb _ _ set) refl)

  from-zeros : (sel g : ℕ) (t : Taken) → (t.reader.status ≡ 0 → ⊥) → (row_from s sel g g t).values ≡ zeros (4 * g)
  unfolding row_from row_step
  from-zeros sel zero t set = refl
  from-zeros sel (suc g) t set = rw (ne_eqb (suc g) 0 (λ e. omega (arith, e)), ne_eqb _ _ set) refl

  -- a row whose reader has a status that is set is 0
  row-zeros : (sel n : ℕ) (r : Reader) → r.status ≤ 2 → (r.status ≡ 0 → ⊥) → (row_of s sel n r).values ≡ zeros n
  unfolding row_of
  row-zeros sel n r low set =
      let up = (update-moves r 0).up low in
      ap (take n) (from-zeros sel ((n + 3) / 4) (update_of s r 0) (λ e. set (omega (arith, up.0, e))))
      ∙ take-zeros n (4 * ((n + 3) / 4)) (omega arith)

-- ---- rows one after the other
module _ (s : List ℕ) (sel : ℕ → ℕ) (m cols : ℕ) where
  -- those that come after a status was set are 0
  pub rows-zeros : (n k : ℕ) (r : Reader) → r.status ≤ 2 → (r.status ≡ 0 → ⊥) → (rows_of s sel m cols n k r).values ≡ zeros (n * cols)
  unfolding rows_of
  rows-zeros zero k r low set = ap zeros (sym (zero-mul cols))
  rows-zeros (suc n) k r low set =
      let row = (row_of s (sel (k / m)) cols r).reader in
      let up = (row-moves s (sel (k / m)) cols r).up low in
      let rest = rows-zeros n (suc k) row up.1 (λ e. set (omega (arith, up.0, e))) in
      (λ j. row-zeros s (sel (k / m)) cols r low set j ++ rest j)
      ∙ replicate-append-replicate cols (n * cols) (pos 0)
      ∙ ap zeros (add_comm cols (n * cols) ∙ sym (suc-mul n cols))

  -- one row more
  pub rows_on : (n k : ℕ) (r : Reader)
      → (rows_of s sel m cols (suc n) k r).reader ≡ (row_of s (sel ((k + n) / m)) cols (rows_of s sel m cols n k r).reader).reader
  unfolding rows_of
  rows_on zero k r = let z : k + 0 ≡ k = omega arith in rw z refl
  rows_on (suc n) k r =
      let e : k + suc n ≡ suc k + n = omega arith in
      rw e (rows_on n (suc k) (row_of s (sel (k / m)) cols r).reader)

  module _ (r : Reader) (fresh : r.status ≡ 0) where
    -- the reader after n rows
    abbrev pub after : ℕ → Reader
    after n = (rows_of s sel m cols n 0 r).reader

    pub rows-move : (n : ℕ) → Moves (after n) (after (suc n))
    rows-move n = rw (rows_on n 0 r) (row-moves s (sel ((0 + n) / m)) cols (after n))

    pub after-low : (n : ℕ) → (after n).status ≤ 2
    unfolding rows_of
    after-low zero = omega arith
    after-low (suc n) = ((rows-move n).up (after-low n)).1

    -- what a record goes by is 2 at most, and 0 where its status at the end is 0, and there alone
    first-low : (n : ℕ) → first_status s sel m cols n r ≤ 2
    unfolding first_status each
    first-low zero = omega arith
    first-low (suc n) = first_of (each (λ k. (after (k + 1)).status) n) (after (n + 1)).status (first-low n) (after-low (n + 1))
      where
        first_of : (a b : ℕ) → a ≤ 2 → b ≤ 2 → (a ▷ b) ≤ 2
        first_of zero b h k = k
        first_of (suc a) b h k = h

    first-none : (n : ℕ) → (after n).status ≡ 0 → first_status s sel m cols n r ≡ 0
    unfolding first_status each
    first-none zero e = refl
    first-none (suc n) e =
        let before = first-none n (omega (arith, ((rows-move n).up (after-low n)).0)) in
        rw (before, add-one n) e

    first-all : (n : ℕ) → first_status s sel m cols n r ≡ 0 → (after n).status ≡ 0
    unfolding first_status each rows_of
    first-all zero h = fresh
    first-all (suc n) h = rw (add-one n) at (both-none (each (λ k. (after (k + 1)).status) n) (after (n + 1)).status h).1

-- ---- stopped records are the broken and the spent ones
-- by the status that a record goes by, and that at its end
stops-by : (first end : ℕ) → first ≤ 2 → (end ≡ 0 → first ≡ 0) → (first ≡ 0 → end ≡ 0) → cond (eqb end 0) 0 1 ≡ goes_by 1 first + goes_by 2 first
stops-by zero end low h k = simp (eq-eqb _ _ (k refl))
stops-by (suc zero) end low h k = simp (ne_eqb end 0 (λ e. omega (arith, h e)))
stops-by (suc (suc zero)) end low h k = simp (ne_eqb end 0 (λ e. omega (arith, h e)))
stops-by (suc (suc (suc n))) end low h k = absurd (omega arith)

-- by whether the record has any bytes
coded-or-not : (none : Bool) (a b : List ℤ) (first end : ℕ) → cond (eqb end 0) 0 1 ≡ goes_by 1 first + goes_by 2 first
    → (cond {A = Stretch} none (record { values = a; stopped = 0 }) (record { values = b; stopped = cond (eqb end 0) 0 1 })).stopped
    ≡ goes_by 1 (cond none 0 first) + goes_by 2 (cond none 0 first)
coded-or-not true a b first end h = refl
coded-or-not false a b first end h = h

module _ (p : List ℕ) (m cols : ℕ) where
  record-both : (i : ℕ) → (record_of p m cols i).stopped ≡ goes_by 1 (record_status p m cols i) + goes_by 2 (record_status p m cols i)
  unfolding record_of coded_record record_status
  record-both i =
      let r = start_of (payload_at p i) (record_length p i) in
      let n = kind p * m in
      coded-or-not (eqb (record_length p i) 0) _ _ (first_status p (selector p i) m cols n r) (rows_of p (selector p i) m cols n 0 r).reader.status
      (stops-by _ _ (first-low p (selector p i) m cols r refl n) (first-none p (selector p i) m cols r refl n) (first-all p (selector p i) m cols r refl n))

  pub packet-both : packet_stopped p m cols ≡ packet_count 1 p m cols + packet_count 2 p m cols
  unfolding packet_stopped packet_count
  packet-both = sum_both _ _ _ record-both (blocks p)

module _ (f g h : Group → Colour → ℕ) (e : (m : Group) (i : Colour) → f m i ≡ g m i + h m i) where
  plane-both : (i : Colour) → plane_sum f i ≡ plane_sum g i + plane_sum h i
  unfolding plane_sum
  plane-both i = omega (arith, e base i, e (detail l1) i, e (detail l2) i, e (detail l3) i)

  tile-both : tile_sum f ≡ tile_sum g + tile_sum h
  unfolding tile_sum
  tile-both = omega (arith, plane-both green, plane-both red, plane-both blue, e final green)

-- of the whole tile
pub stopped-is-both : (s : List ℕ) → stopped_of s ≡ broken_of s + spent_of s
unfolding stopped_of broken_of spent_of group_stopped group_count
stopped-is-both s = tile-both (group_stopped s) (group_count 1 s) (group_count 2 s) (λ g i. packet-both _ _ _)
