-- The stream, its length and what refuses it depend on no coefficient beyond its columns. Assumes nothing.
use Rattle.std.proofs.Common.{◌≡◌, ap, List, [], ◌++◌, cond, ℕ, ◌+◌, ◌*◌, ◌/◌, ◌%◌, ◌<◌, nat_abs, eqb, ltb}
use Rattle.lists.proofs.Rows.{rows_same}
use Rattle.format.specs.Sizes.{Colour, Group, multiplier, components, columns, numbered, indexed}
use Rattle.format.specs.Refusals.{◌▷◌, on}
use Rattle.format.specs.Coefficients.{Coefs}
use Rattle.format.specs.Writing.{number_bits, zero_bits, magnitudes, record_bits, units, filled, entries, records, head_units}
use Rattle.format.specs.Writing.{whole_record, record_bytes, record_head, payload_units, packet_head, packet_bits, packet_units, group_bits, group_units}
use Rattle.format.specs.Writing.{entry_units, block_bits, header_bits, stream_bits, stream_length, packed, stream_of, lengths_refusal}
use Rattle.format.proofs.TurnLaws.{sum_same, each_same}
use Rattle.encoding.proofs.Records.{row_same}

module _ (w H : ℕ) (v v' : Coefs) (s : (g : Group) (i : Colour) (c r x : ℕ) → x < columns w g → v g i c r x ≡ v' g i c r x) where
  -- ---- a record
  abbrev bits : Coefs → Group → Colour → ℕ → List ℕ
  bits u g i k = record_bits (u g i) (multiplier g) (columns w g) (components g * multiplier g) k

  record_same : (g : Group) (i : Colour) (k : ℕ) → bits v g i k ≡ bits v' g i k
  unfolding record_bits magnitudes
  record_same g i k =
      let n = components g * multiplier g in
      let m = multiplier g in
      let sums = sum_same _ _ n (λ q _. sum_same _ _ (columns w g) (λ x b. ap nat_abs (s g i (q / m) (k * m + q % m) x b))) in
      let lines = rows_same n _ _ (λ q _. row_same (columns w g) _ _ (λ x b. s g i (q / m) (k * m + q % m) x b)) in
      λ j. cond (eqb (sums j) 0) [] (lines j)

  bytes_same : (g : Group) (i : Colour) (k : ℕ) → record_bytes w H v g i k ≡ record_bytes w H v' g i k
  bytes_same g i k = ap (units 8) (record_same g i k)

  whole_same : (g : Group) (i : Colour) (k : ℕ) → whole_record w H v g i k ≡ whole_record w H v' g i k
  unfolding whole_record
  whole_same g i k = ap (filled 8) (record_same g i k)

  head-same : (g : Group) (i : Colour) (k : ℕ) → record_head w H v g i k ≡ record_head w H v' g i k
  unfolding record_head
  head-same g i k = ap (λ (n : ℕ). number_bits 16 n ++ zero_bits (4 * components g)) (bytes_same g i k)

  -- ---- a packet
  payload_same : (g : Group) (i : Colour) → payload_units w H v g i ≡ payload_units w H v' g i
  unfolding payload_units
  payload_same g i = ap (λ (n : ℕ). (n + 15) / 16) (sum_same _ _ (records H) (λ k _. bytes_same g i k))

  units-same : (g : Group) (i : Colour) → packet_units w H v g i ≡ packet_units w H v' g i
  unfolding packet_units
  units-same g i = ap (λ (n : ℕ). head_units H g + n) (payload_same g i)

  front_same : (g : Group) (i : Colour) → packet_head w H v g i ≡ packet_head w H v' g i
  unfolding packet_head
  front_same g i = rw (payload_same g i)

  packet-same : (g : Group) (i : Colour) → packet_bits w H v g i ≡ packet_bits w H v' g i
  unfolding packet_bits
  packet-same g i =
      let heads = rows_same (records H) _ _ (λ k _. head-same g i k) in
      let wholes = rows_same (records H) _ _ (λ k _. whole_same g i k) in
      λ j. filled 128 (front_same g i j ++ heads j) ++ filled 128 (wholes j)

  -- ---- a group, its size and its block
  group-same : (g : ℕ) → group_bits w H v g ≡ group_bits w H v' g
  unfolding group_bits
  group-same g = rows_same (entries (numbered g)) _ _ (λ k _. packet-same (numbered g) (indexed k))

  size_same : (g : ℕ) → group_units w H v g ≡ group_units w H v' g
  unfolding group_units
  size_same g = sum_same _ _ (entries (numbered g)) (λ k _. units-same (numbered g) (indexed k))

  entry-same : (g k : ℕ) → entry_units w H v g k ≡ entry_units w H v' g k
  unfolding entry_units
  entry-same g k = ap (λ (n : ℕ). cond (ltb k (entries (numbered g))) n 0) (units-same (numbered g) (indexed k))

  block_same : (g : ℕ) → block_bits w H v g ≡ block_bits w H v' g
  unfolding block_bits
  block_same g =
      let lengths = rows_same 5 _ _ (λ k _. ap (number_bits 24) (entry-same g k)) in
      ap (λ (b : List ℕ). zero_bits 4 ++ (number_bits 4 (entries (numbered g)) ++ b)) lengths

  -- ---- the stream
  header-same : header_bits w H v ≡ header_bits w H v'
  unfolding header_bits
  header-same =
      let sizes = rows_same 5 _ _ (λ g _. ap (number_bits 24) (size_same g)) in
      rw sizes

  bits-same : stream_bits w H v ≡ stream_bits w H v'
  unfolding stream_bits
  bits-same =
      let blocks = rows_same 5 _ _ (λ g _. block_same g) in
      let groups = rows_same 5 _ _ (λ g _. group-same g) in
      λ j. header-same j ++ (blocks j ++ groups j)

  pub stream-same : stream_of w H v ≡ stream_of w H v'
  unfolding stream_of
  stream-same = ap packed bits-same

  pub length-same : stream_length w H v ≡ stream_length w H v'
  unfolding stream_length
  length-same = ap (λ (n : ℕ). 128 + 16 * n) (sum_same _ _ 5 (λ g _. size_same g))

  -- what 26 refuses
  pub lengths-same : lengths_refusal w H v ≡ lengths_refusal w H v'
  unfolding lengths_refusal
  lengths-same =
      let record-fits : (g k r : ℕ) → on (ltb 65535 (record_bytes w H v (numbered g) (indexed k) r)) 26 ≡ on (ltb 65535 (record_bytes w H v' (numbered g) (indexed k) r)) 26 =
      λ g k r. ap (λ (n : ℕ). on (ltb 65535 n) 26) (bytes_same (numbered g) (indexed k) r) in
      let records-fit = each_same _ _ 5 (λ g _. each_same _ _ (entries (numbered g)) (λ k _. each_same _ _ (records H) (λ r _. record-fits g k r))) in
      let groups-fit = each_same _ _ 5 (λ g _. ap (λ (n : ℕ). on (ltb 268435440 (16 * n)) 26) (size_same g)) in
      λ j. records-fit j ▷ groups-fit j
