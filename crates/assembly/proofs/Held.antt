-- A packet whose numbers stand in a list is the one of the coefficients. Assumes nothing.
use Rattle.std.proofs.Common.{◌≡◌, ap, ◌∙◌, List, ◌++◌, ℕ, suc, ◌+◌, ◌*◌, ◌/◌, ◌%◌, ◌≤◌, ◌<◌, mul-le-mul_right, mul_assoc, arith, ℤ, pos, length, ltb}
use Rattle.lists.specs.Lists.{rows}
use Rattle.lists.proofs.Tab.{get_d_part, length_part, length-tab}
use Rattle.lists.proofs.Rows.{rows_same, length-rows}
use Rattle.format.specs.Sizes.{Colour, l1, l2, l3, Group, base, detail, final, multiplier, components, columns}
use Rattle.format.specs.Lifting.{Plane}
use Rattle.format.specs.Refusals.{on, each}
use Rattle.format.specs.Coefficients.{Coefs}
use Rattle.format.specs.Numbers.{component_at, row_at, in_turn, packet_rows, packet_numbers}
use Rattle.format.specs.Writing.{units, filled, records, head_units, record_bits, whole_record, record_bytes, record_head, payload_units, packet_head, packet_bits, packet_units}
use Rattle.format.proofs.PlaceLaws.{read-flat}
use Rattle.encoding.specs.Numbers.{line}
use Rattle.encoding.proofs.Records.{record-in}
use Rattle.format.proofs.TurnLaws.{sum_same, each_same}
use Rattle.assembly.specs.Packet.{head_units_of, open_bits, head_of, numbers_at, bits_of, bytes_of, payload_of, units_of, long_refusal, heads_of, records_of, bits_in}
use Rattle.assembly.specs.Tile.{shape_of}

-- row q of record k, among all rows
turn-component : (g : Group) (k q : ℕ) → q < components g * multiplier g → component_at g (k * (components g * multiplier g) + q) ≡ q / multiplier g
turn-component base k q h = omega arith
turn-component (detail l1) k q h = omega arith
turn-component (detail l2) k q h = omega arith
turn-component (detail l3) k q h = omega arith
turn-component final k q h = omega arith

turn-row : (g : Group) (k q : ℕ) → q < components g * multiplier g → row_at g (k * (components g * multiplier g) + q) ≡ k * multiplier g + q % multiplier g
turn-row base k q h = omega arith
turn-row (detail l1) k q h = omega arith
turn-row (detail l2) k q h = omega arith
turn-row (detail l3) k q h = omega arith
turn-row final k q h = omega arith

module _ (w : ℕ) (g : Group) (n : ℕ) (v : ℕ → Plane) where
  pub length-numbers : length (packet_numbers w g n v) ≡ packet_rows g n * columns w g
  unfolding packet_numbers
  length-numbers = length-rows (columns w g) _ (λ y. length-tab (columns w g) (in_turn g v y)) (packet_rows g n)

  -- its row y
  pub numbers-at : (y x : ℕ) → y < packet_rows g n → x < columns w g → line (packet_numbers w g n v) (y * columns w g + x) ≡ in_turn g v y x
  unfolding packet_numbers
  numbers-at y x a b = read-flat (packet_rows g n) (columns w g) (in_turn g v) y x a b

module _ (w H : ℕ) (v : Coefs) (g : Group) (i : Colour) (l : List ℤ) (is : l ≡ packet_numbers w g (records H) (v g i)) where
  pub record-held : (k : ℕ) → k < records H → bits_of (shape_of w (records H) g) l k ≡ record_bits (v g i) (multiplier g) (columns w g) (components g * multiplier g) k
  unfolding bits_of
  record-held k h =
      let C = columns w g in
      let R = components g * multiplier g in
      let m : suc k * R ≤ records H * R = mul-le-mul_right R h in
      let fits : k * (R * C) + R * C ≤ length l =
      rw (is, length-numbers w g (records H) (v g i), ← (mul_assoc k R C)) (omega (arith, mul-le-mul_right C m)) in
      record-in (v g i) (multiplier g) C R k (numbers_at (shape_of w (records H) g) l k) (length_part l (k * (R * C)) (R * C) fits)
      (λ q x a b.
      let in_row : suc q * C ≤ R * C = mul-le-mul_right C a in
      let place : k * (R * C) + (q * C + x) ≡ (k * R + q) * C + x = omega (arith, mul_assoc k R C) in
      get_d_part l (k * (R * C)) (R * C) (q * C + x) (pos 0) (omega arith)
      ∙ (λ j. line (is j) (place j))
      ∙ numbers-at w g (records H) (v g i) (k * R + q) x (omega (arith, m)) b
      ∙ (λ j. v g i (turn-component g k q a j) (turn-row g k q a j) x))

  pub bytes-held : (k : ℕ) → k < records H → bytes_of (shape_of w (records H) g) l k ≡ record_bytes w H v g i k
  bytes-held k h = ap (units 8) (record-held k h)

  pub payload-held : payload_of (shape_of w (records H) g) l ≡ payload_units w H v g i
  unfolding payload_of payload_units
  payload-held = ap (λ (s : ℕ). (s + 15) / 16) (sum_same _ _ (records H) bytes-held)

  pub units-held : units_of (shape_of w (records H) g) l ≡ packet_units w H v g i
  unfolding head_units_of head_units packet_units
  units-held = ap (λ (s : ℕ). head_units H g + s) payload-held

  pub refusal-held : long_refusal (shape_of w (records H) g) l ≡ each (λ r. on (ltb 65535 (record_bytes w H v g i r)) 26) (records H)
  unfolding long_refusal
  refusal-held = each_same _ _ (records H) (λ k h. ap (λ (b : ℕ). on (ltb 65535 b) 26) (bytes-held k h))

  pub packet-held : bits_in (shape_of w (records H) g) l ≡ packet_bits w H v g i
  unfolding bits_in packet_bits open_bits packet_head record_head whole_record head_units_of head_units
  packet-held =
      let z = shape_of w (records H) g in
      let heads : heads_of z l (records H) ≡ rows (records H) (record_head w H v g i) = rows_same (records H) _ _ (λ k h. ap (head_of z) (bytes-held k h)) in
      let recs : records_of z l (records H) ≡ rows (records H) (whole_record w H v g i) = rows_same (records H) _ _ (λ k h. ap (filled 8) (record-held k h)) in
      λ j. filled 128 (open_bits z (payload-held j) ++ heads j) ++ filled 128 (recs j)
