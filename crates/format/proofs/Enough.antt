-- What `lengths_of` promises a caller: its refusal is the stream's whatever is lent, and slices as long as it says are never too short.
-- Assumes nothing.
use Rattle.std.proofs.Common.{◌≡◌, refl, sym, ap, subst, ◌∙◌, ◌⊎◌, inl, inr, List, Bool, true, false, not, ◌&&◌, ◌||◌, ℕ, zero, suc, ◌+◌, ◌*◌, ◌/◌, ◌≤◌, arith, length, ltb, eqb, le-ltb}
use Rattle.format.specs.Sizes.{Colour, green, red, blue, index, l1, l2, l3, Group, base, detail, final, number, plane_rows_of}
use Rattle.format.specs.Strip.{width, coded_height, valid_header, group_size}
use Rattle.format.specs.Packets.{sum, entry_count, block_size, block_at, packet_start, packet_length, has_entry, packet_of, tag, zero4, kind, zero6, blocks, marker, zero8, padding, size_of, record_bit, record_length, payload_at}
use Rattle.format.specs.Refusals.{◌▷◌, on, each, large_refusal, short_refusal, entry_refusal, group_refusal, directory_refusal, record_refusal, packet_refusal, is_detail, wrong_count, tile_refusal, entry_check, plane_refusal, packets_refusal, refusal}
use Rattle.format.specs.Tile.{Lengths, lengths_by, size_refusal, lengths_of, Enough}
use Rattle.format.proofs.TurnLaws.{stops, both-none, on-not}
use Rattle.format.proofs.DirectoryLaws.{valid-long}

-- three checks in turn
in-turn : (a b c : ℕ) → (a ▷ b ▷ c) ≡ ((a ▷ b) ▷ c)
in-turn zero b c = refl
in-turn (suc a) b c = refl

by-refusal : (k w H : ℕ) → (lengths_by k w H).refusal ≡ k
by-refusal zero w H = refl
by-refusal (suc k) w H = refl

first-or-second : (a b : Bool) → (on a 2 ▷ on b 3) ≤ 3
first-or-second true b = omega arith
first-or-second false true = omega arith
first-or-second false false = omega arith

module _ (s : List ℕ) where
  -- the refusal of the lengths is the header's, or the size's
  pub size-refusal : (lengths_of s).refusal ≡ size_refusal s
  unfolding lengths_of
  size-refusal = by-refusal (size_refusal s) (width s) (coded_height s)

  pub at-most-3 : (lengths_of s).refusal ≤ 3
  unfolding large_refusal
  at-most-3 = rw size-refusal (first-or-second (not (valid_header s)) (ltb 134217728 (plane_rows_of (coded_height s) * width s)))

  -- without it, the header is valid and the fields are those of the coded size
  pub measured-long : (lengths_of s).refusal ≡ 0 → 128 ≤ length s
  measured-long none = valid-long s (on-not (valid_header s) 1 (both-none (on (not (valid_header s)) 2) _ (sym size-refusal ∙ none)).0)

  pub measured : (lengths_of s).refusal ≡ 0 → lengths_of s ≡ lengths_by 0 (width s) (coded_height s)
  unfolding lengths_of
  measured none = ap (λ (k : ℕ). lengths_by k (width s) (coded_height s)) (sym (by-refusal (size_refusal s) (width s) (coded_height s)) ∙ none)

  module _ (green_n red_n blue_n work_n : ℕ) where
    -- the refusal of a stream starts with it
    pub refusal-after : refusal s green_n red_n blue_n work_n
        ≡ ((lengths_of s).refusal ▷ short_refusal (width s) (coded_height s) green_n red_n blue_n work_n ▷ directory_refusal s ▷ packets_refusal s)
    unfolding refusal
    refusal-after = rw size-refusal (in-turn (on (not (valid_header s)) 2) (large_refusal (width s) (coded_height s)) _)

    -- a stream whose lengths are refused is refused with that number, whatever is lent
    pub refused-whatever-is-lent : ((lengths_of s).refusal ≡ 0 → ⊥) → refusal s green_n red_n blue_n work_n ≡ (lengths_of s).refusal
    refused-whatever-is-lent some = refusal-after ∙ stops _ _ some

    not_short : Enough s green_n red_n blue_n work_n → short_refusal (width s) (coded_height s) green_n red_n blue_n work_n ≡ 0
    unfolding short_refusal
    not_short e =
        let is = measured e.none in
        let g = le-ltb _ _ (subst (λ (n : Lengths). n.green ≤ green_n) is e.greens) in
        let r = le-ltb _ _ (subst (λ (n : Lengths). n.red ≤ red_n) is e.reds) in
        let b = le-ltb _ _ (subst (λ (n : Lengths). n.blue ≤ blue_n) is e.blues) in
        let w = le-ltb _ _ (subst (λ (n : Lengths). n.work ≤ work_n) is e.works) in
        rw (g, r, b, w) refl

    -- with slices as long as the lengths say, the stream's refusal is that of directory and packets alone
    pub enough : Enough s green_n red_n blue_n work_n → refusal s green_n red_n blue_n work_n ≡ (directory_refusal s ▷ packets_refusal s)
    enough e = refusal-after ∙ rw (e.none, not_short e) refl

-- ---- the numbers of directory and packets: none, or 5 and above

abbrev Late : ℕ → Type 0
Late a = (a ≡ 0) ⊎ (5 ≤ a)

infixr 20 ◌then◌
◌then◌ : {a b : ℕ} → Late a → Late b → Late (a ▷ b)
◌then◌ {a = zero} h k = k
◌then◌ {a = suc a} h k = h

-- a check of the number k + 5
late : (b : Bool) (k : ℕ) → Late (on b (k + 5))
late true k = inr (omega arith)
late false k = inl refl

each-late : (f : ℕ → ℕ) → ((i : ℕ) → Late (f i)) → (n : ℕ) → Late (each f n)
unfolding each
each-late f h zero = inl refl
each-late f h (suc n) = each-late f h n then h n

module _ (s : List ℕ) where
  group-late : (g : ℕ) → Late (group_refusal s g)
  unfolding group_refusal entry_refusal
  group-late g =
      let at = block_at s g in
      late (ltb (length s) (at + 16)) 0
      then late (ltb 9 (entry_count s at)) 1
      then late (ltb (length s) (at + block_size s at)) 0
      then each-late (entry_refusal s g) (λ k. late (ltb (length s) (packet_start s g k + packet_length s g k)) 2) (entry_count s at)
      then late (ltb (group_size s g) (sum (packet_length s g) (entry_count s at))) 3

  directory-late : Late (directory_refusal s)
  unfolding directory_refusal
  directory-late = each-late (group_refusal s) group-late 5

record-late : (p : List ℕ) (i : ℕ) → Late (record_refusal p i)
unfolding record_refusal
record-late p i = late (ltb (length p * 8) (record_bit p (i + 1))) 6 then late (ltb (length p) (payload_at p i + record_length p i)) 13

packet-late : (p : List ℕ) → Late (packet_refusal p)
unfolding packet_refusal
packet-late p =
    late (ltb (length p) 16) 5
    then late (not (eqb (padding p) 0)) 7
    then late (not (eqb (tag p) 4) || not (eqb (zero4 p) 0) || not (eqb (zero6 p) 0)) 8
    then late (not (eqb (kind p) 1 || eqb (kind p) 3)) 9
    then late (eqb (blocks p) 0 || ltb 30000 (blocks p)) 10
    then late (not (eqb (marker p) 16) || not (eqb (zero8 p) 0)) 11
    then late (not (eqb (size_of p) (length p))) 12
    then each-late (record_refusal p) (record-late p) (blocks p)

tile-late : (kind count : ℕ) (g : Group) (H n : ℕ) → Late (tile_refusal kind count g H n)
unfolding tile_refusal
tile-late kind count g H n =
    late (eqb kind 3 && not (is_detail g)) 14
    then late (ltb 32767 H) 15
    then late (wrong_count H count) 16
    then late (ltb (n / 16 + 1) count) 17
    then late (eqb kind 1 && is_detail g) 18

module _ (s : List ℕ) where
  entry-late : (g : Group) (k : ℕ) → Late (entry_check s g k)
  unfolding entry_check
  entry-late g k =
      let p = packet_of s (number g) k in
      late (not (has_entry s (number g) k)) 4 then packet-late p then tile-late (kind p) (blocks p) g (coded_height s) (length s)

  plane-late : (i : Colour) → Late (plane_refusal s i)
  unfolding plane_refusal
  plane-late i =
      entry-late base (index i)
      then entry-late (detail l1) (index i)
      then late (ltb (coded_height s) 16) 19
      then entry-late (detail l2) (index i)
      then entry-late (detail l3) (index i)

  packets-late : Late (packets_refusal s)
  unfolding packets_refusal
  packets-late = plane-late green then plane-late red then plane-late blue then entry-late final 0

-- so it is none of 2, 3 and 4
pub never-short : (s : List ℕ) (green_n red_n blue_n work_n : ℕ) → Enough s green_n red_n blue_n work_n
    → (refusal s green_n red_n blue_n work_n ≡ 0) ⊎ (5 ≤ refusal s green_n red_n blue_n work_n)
never-short s green_n red_n blue_n work_n e = subst Late (sym (enough s green_n red_n blue_n work_n e)) (directory-late s then packets-late s)
