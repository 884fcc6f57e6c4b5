-- A written stream is accepted, and its coefficients are those that were written. Assumes nothing.
use Rattle.std.proofs.Common.{◌≡◌, refl, ap, ◌∙◌, subst, List, true, false, ℕ, zero, suc, ◌+◌, ◌*◌, ◌/◌, ◌%◌, ◌^◌, ◌≤◌, ◌<◌, arith, pos, nat_abs, length, get_or, le-leb, lt-ltb, le-ltb, eq-eqb, ne_eqb}
use Rattle.std.proofs.lemmas.Bool.{false≢true}
use Rattle.format.specs.Sizes.{Colour, green, red, blue, index, l1, l2, l3, Group, base, detail, final, number, present, stripes, multiplier, components, columns, numbered, indexed}
use Rattle.format.specs.Strip.{magic, sides, marks, valid_header, group_size}
use Rattle.format.specs.Packets.{sum, entry_count, packet_start, packet_length, has_entry, packet_of, kind}
use Rattle.format.specs.Refusals.{each, large_refusal, short_refusal, entry_refusal, group_refusal, directory_refusal, wrong_count, tile_refusal, entry_check, plane_refusal, packets_refusal, refusal}
use Rattle.format.specs.Coefficients.{Coefs, Stretch, record_of, record_values, coefs, packet_stopped, group_stopped, plane_sum, tile_sum, stopped_of}
use Rattle.format.specs.Used.{packet_used, group_used, bits_of}
use Rattle.format.specs.Writing.{record_row, records_bits, entries, records, head_units, packet_units, group_units, stream_bits, stream_length}
use Rattle.format.proofs.PlaceLaws.{read-flat}
use Rattle.writing.proofs.Standing.{Stand}
use Rattle.format.proofs.TurnLaws.{sum_same}
use Rattle.format.proofs.Numbered.{number_lt, group-number, colour-index}
use Rattle.writing.proofs.PacketBack.{read, record-back, record-used}
use Rattle.writing.proofs.PacketGood.{each-good, packet-good}
use Rattle.writing.proofs.StreamBack.{sixteen, few-entries, Fits, fields, header, size-width, size-height, size-read, count-read, block-16, block-at, packet-length, packet-ends, packet-size, packet-stands}

-- ---- a coefficient's place in its record
place-component : (g : Group) (c r : ℕ) → (c * multiplier g + r % multiplier g) / multiplier g ≡ c
place-component base c r = omega arith
place-component (detail l1) c r = omega arith
place-component (detail l2) c r = omega arith
place-component (detail l3) c r = omega arith
place-component final c r = omega arith

place-row : (g : Group) (c r : ℕ) → r / multiplier g * multiplier g + (c * multiplier g + r % multiplier g) % multiplier g ≡ r
place-row base c r = omega arith
place-row (detail l1) c r = omega arith
place-row (detail l2) c r = omega arith
place-row (detail l3) c r = omega arith
place-row final c r = omega arith

place_in : (g : Group) (c r : ℕ) → c < components g → c * multiplier g + r % multiplier g < components g * multiplier g
place_in base c r h = omega arith
place_in (detail l1) c r h = omega arith
place_in (detail l2) c r h = omega arith
place_in (detail l3) c r h = omega arith
place_in final c r h = omega arith

record-in : (g : Group) (n r : ℕ) → r < n * multiplier g → r / multiplier g < n
record-in base n r h = omega arith
record-in (detail l1) n r h = omega arith
record-in (detail l2) n r h = omega arith
record-in (detail l3) n r h = omega arith
record-in final n r h = omega arith

sum-none-all : (f : ℕ → ℕ) (n : ℕ) → ((k : ℕ) → k < n → f k ≡ 0) → sum f n ≡ 0
unfolding sum
sum-none-all f zero h = refl
sum-none-all f (suc n) h = omega (arith, sum-none-all f n (λ k l. h k (omega arith)), h n (omega arith))

-- a packet by the numbers of its group and its index
index-few : (i : Colour) → index i < 3
index-few green = omega arith
index-few red = omega arith
index-few blue = omega arith

has-entry : (g : Group) (i : Colour) → present g i ≡ true → index i < entries g
has-entry base i h = index-few i
has-entry (detail l) i h = index-few i
has-entry final green h = omega arith
has-entry final red h = absurd (false≢true h)
has-entry final blue h = absurd (false≢true h)

module _ (w H : ℕ) (v : Coefs) (f : Fits w H v) (s : List ℕ) (stand : Stand s 0 (stream_bits w H v)) (long : stream_length w H v ≤ length s) where
  -- ---- the coefficients
  module _ (small : (g : Group) (i : Colour) (c r x : ℕ) → c < components g → r < records H * multiplier g → x < columns w g → nat_abs (v g i c r x) < 2 ^ 19) where
    at_place : (g k c r x : ℕ) → g < 5 → k < entries (numbered g) → c < components (numbered g) → r < records H * multiplier (numbered g) → x < columns w (numbered g)
        → get_or (record_values (packet_of s g k) (multiplier (numbered g)) (columns w (numbered g)) (r / multiplier (numbered g))) ((c * multiplier (numbered g) + r % multiplier (numbered g)) * columns w (numbered g) + x) (pos 0)
        ≡ v (numbered g) (indexed k) c r x
    unfolding record_values
    at_place g k c r x l b hc hr hx =
        let G = numbered g in
        let I = indexed k in
        let m = multiplier G in
        let p = packet_of s g k in
        let F = fields w H v f g k l b in
        let st = packet-stands w H v f s stand long g k l b in
        let j = record-in G (records H) r hr in
        let blocks-are = (read w H v G I F p st).blocks in
        let q = c * m + r % m in
        rw (blocks-are, lt-ltb (r / m) (records H) j, record-back w H v G I F p st f.narrow (small G I) (r / m) j)
        (read-flat (components G * m) (columns w G) (record_row (v G I) m (r / m)) q x (place_in G c r hc) hx
        ∙ (λ n. v G I (place-component G c r n) (place-row G c r n) x))

    -- what stands where a packet's coefficient is looked up
    abbrev Back : Group → Colour → Group → Colour → Type 0
    Back m j g i =
        (c r x : ℕ) → c < components g → r < records H * multiplier g → x < columns w g
        → get_or (record_values (packet_of s (number m) (index j)) (multiplier g) (columns w g) (r / multiplier g)) ((c * multiplier g + r % multiplier g) * columns w g + x) (pos 0) ≡ v g i c r x

    pub coefs-back : (g : Group) (i : Colour) → present g i ≡ true → (c r x : ℕ) → c < components g → r < records H * multiplier g → x < columns w g → coefs s g i c r x ≡ v g i c r x
    unfolding coefs
    coefs-back g i h =
        let few : index i < entries (numbered (number g)) = rw (group-number g) (has-entry g i h) in
        let first : Back g i (numbered (number g)) (indexed (index i)) = λ c r x a b d. at_place (number g) (index i) c r x (number_lt g) few a b d in
        rw (size-width w H v f s stand long)
        (subst (Back g i g) (colour-index i) (subst (λ (k : Group). Back g i k (indexed (index i))) (group-number g) first))

  -- ---- no check refuses
  long-128 : 128 ≤ length s
  unfolding stream_length
  long-128 = omega (arith, long)

  header-good : valid_header s ≡ true
  unfolding valid_header magic sides marks
  header-good =
      let h = header w H v f s stand long in
      rw
      (le-leb 128 (length s) long-128, h.magic, h.width, h.half, h.twelve, h.fourteen, ne_eqb w 0 (λ z. omega (arith, f.wide)), eq-eqb (w % 16) 0 f.whole, ne_eqb (H / 2) 0 (λ z. omega (arith, f.tall)))

  sizes-good : (g : ℕ) → g < 5 → sum (packet_length s g) (entries (numbered g)) ≤ group_size s g
  unfolding group_units
  sizes-good g l =
      let a = sixteen (packet_length s g) (λ k. packet_units w H v (numbered g) (indexed k)) (entries (numbered g)) (λ k b. packet-length w H v f s stand long g k l b) in
      omega (arith, a, size-read w H v f s stand long g l)

  group-good : (g : ℕ) → g < 5 → group_refusal s g ≡ 0
  unfolding group_refusal entry_refusal
  group-good g l =
      let n = entries (numbered g) in
      let few = (few-entries g).1 in
      let count : entry_count s (48 + 16 * g) ≡ n = count-read w H v f s stand long g l in
      let all : each (entry_refusal s g) n ≡ 0 =
      each-good (entry_refusal s g) n (λ k b. rw (le-ltb (length s) (packet_start s g k + packet_length s g k) (packet-ends w H v f s stand long g k l b))) in
      rw
      (block-at w H v f s stand long g (omega arith), block-16 w H v f s stand long g l, count, le-ltb (length s) (48 + 16 * g + 16) (omega (arith, long-128)), le-ltb 9 n (omega arith), all, le-ltb (group_size s g) (sum (packet_length s g) n) (sizes-good g l))

  directory-good : directory_refusal s ≡ 0
  unfolding directory_refusal
  directory-good = each-good (group_refusal s) 5 group-good

  -- the stream is long enough for its records
  records-in : stripes H ≤ length s / 16
  unfolding stream_length group_units packet_units head_units sum
  records-in = omega (arith, long)

  -- a packet in its tile
  count-good : wrong_count H (records H) ≡ false
  unfolding wrong_count
  count-good = rw (eq-eqb (records H) (stripes H + 1) refl)

  tile-good : (g : Group) → tile_refusal (components g) (records H) g H (length s) ≡ 0
  unfolding tile_refusal
  tile-good base = rw (le-ltb 32767 H f.low, count-good, le-ltb (length s / 16 + 1) (records H) (omega (arith, records-in)))
  tile-good (detail l) = rw (le-ltb 32767 H f.low, count-good, le-ltb (length s / 16 + 1) (records H) (omega (arith, records-in)))
  tile-good final = rw (le-ltb 32767 H f.low, count-good, le-ltb (length s / 16 + 1) (records H) (omega (arith, records-in)))

  entry-good : (g : Group) (k : ℕ) → number g < 5 → numbered (number g) ≡ g → k < entries g → entry_check s g k ≡ 0
  unfolding entry_check has_entry
  entry-good g k l e b =
      let b' : k < entries (numbered (number g)) = rw e b in
      let p = packet_of s (number g) k in
      let F = fields w H v f (number g) k l b' in
      let st = packet-stands w H v f s stand long (number g) k l b' in
      let r = read w H v (numbered (number g)) (indexed k) F p st in
      let good = packet-good w H v (numbered (number g)) (indexed k) F p st (packet-size w H v f s stand long (number g) k l b') in
      let kinds : kind p ≡ components g = r.kind ∙ ap components e in
      rw
      (block-at w H v f s stand long (number g) (omega arith), count-read w H v f s stand long (number g) l, lt-ltb k (entries (numbered (number g))) b', good, kinds, r.blocks, size-height w H v f s stand long, tile-good g)

  check-good : (g : Group) (i : Colour) → present g i ≡ true → entry_check s g (index i) ≡ 0
  check-good g i h = entry-good g (index i) (number_lt g) (group-number g) (has-entry g i h)

  plane-good : (i : Colour) → plane_refusal s i ≡ 0
  unfolding plane_refusal
  plane-good i =
      rw (check-good base i refl, check-good (detail l1) i refl, size-height w H v f s stand long, le-ltb H 16 f.tall, check-good (detail l2) i refl, check-good (detail l3) i refl)

  pub accepted : (green_n red_n blue_n work_n : ℕ) → large_refusal w H ≡ 0 → short_refusal w H green_n red_n blue_n work_n ≡ 0 → refusal s green_n red_n blue_n work_n ≡ 0
  unfolding refusal packets_refusal
  accepted green_n red_n blue_n work_n large lent =
      rw (header-good, size-width w H v f s stand long, size-height w H v f s stand long, large, lent, directory-good, plane-good green, plane-good red, plane-good blue, check-good final green refl)

  -- ---- no record is stopped
  module _ (small : (g : Group) (i : Colour) (c r x : ℕ) → c < components g → r < records H * multiplier g → x < columns w g → nat_abs (v g i c r x) < 2 ^ 19) where
    packet-sound : (g k : ℕ) → g < 5 → k < entries (numbered g) → packet_stopped (packet_of s g k) (multiplier (numbered g)) (columns w (numbered g)) ≡ 0
    unfolding packet_stopped
    packet-sound g k l b =
        let G = numbered g in
        let F = fields w H v f g k l b in
        let p = packet_of s g k in
        let st = packet-stands w H v f s stand long g k l b in
        rw (read w H v G (indexed k) F p st).blocks
        (sum-none-all (λ i. (record_of p (multiplier G) (columns w G) i).stopped) (records H)
        (λ r j. ap (λ (t : Stretch). t.stopped) (record-back w H v G (indexed k) F p st f.narrow (small G (indexed k)) r j)))

    group-sound : (g : Group) (i : Colour) → present g i ≡ true → group_stopped s g i ≡ 0
    unfolding group_stopped
    group-sound g i h =
        let few : index i < entries (numbered (number g)) = rw (group-number g) (has-entry g i h) in
        rw (size-width w H v f s stand long)
        (subst (λ (k : Group). packet_stopped (packet_of s (number g) (index i)) (multiplier k) (columns w k) ≡ 0) (group-number g)
        (packet-sound (number g) (index i) (number_lt g) few))

    plane-sound : (i : Colour) → plane_sum (group_stopped s) i ≡ 0
    unfolding plane_sum
    plane-sound i = omega (arith, group-sound base i refl, group-sound (detail l1) i refl, group-sound (detail l2) i refl, group-sound (detail l3) i refl)

    pub none-stopped : stopped_of s ≡ 0
    unfolding stopped_of tile_sum
    none-stopped = omega (arith, plane-sound green, plane-sound red, plane-sound blue, group-sound final green refl)

    -- ---- and each takes exactly the bits that were written for it
    packet-used : (g k : ℕ) → g < 5 → k < entries (numbered g)
        → packet_used (packet_of s g k) (multiplier (numbered g)) (columns w (numbered g)) ≡ records_bits w H v (numbered g) (indexed k)
    unfolding packet_used
    packet-used g k l b =
        let G = numbered g in
        let F = fields w H v f g k l b in
        let p = packet_of s g k in
        let st = packet-stands w H v f s stand long g k l b in
        rw (read w H v G (indexed k) F p st).blocks
        (sum_same _ _ (records H) (λ r j. record-used w H v G (indexed k) F p st f.narrow (small G (indexed k)) r j))

    group-used : (g : Group) (i : Colour) → present g i ≡ true → group_used s g i ≡ records_bits w H v g i
    unfolding group_used
    group-used g i h =
        let few : index i < entries (numbered (number g)) = rw (group-number g) (has-entry g i h) in
        let first = packet-used (number g) (index i) (number_lt g) few in
        rw (size-width w H v f s stand long)
        (subst (λ (c : Colour). packet_used (packet_of s (number g) (index i)) (multiplier g) (columns w g) ≡ records_bits w H v g c) (colour-index i)
        (subst (λ (k : Group). packet_used (packet_of s (number g) (index i)) (multiplier k) (columns w k) ≡ records_bits w H v k (indexed (index i))) (group-number g) first))

    plane-used : (i : Colour) → plane_sum (group_used s) i ≡ plane_sum (records_bits w H v) i
    unfolding plane_sum
    plane-used i = omega (arith, group-used base i refl, group-used (detail l1) i refl, group-used (detail l2) i refl, group-used (detail l3) i refl)

    pub all-used : bits_of s ≡ tile_sum (records_bits w H v)
    unfolding bits_of tile_sum
    all-used = omega (arith, plane-used green, plane-used red, plane-used blue, group-used final green refl)
