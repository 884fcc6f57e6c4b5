-- The packets of a tile: that it has them, and that they lie in the work slice. Assumes nothing.
use Rattle.std.proofs.Common.{◌≡◌, sym, ap, ◌∙◌, true, ℕ, ◌+◌, ◌-◌, ◌*◌, ◌/◌, ◌%◌, ◌^◌, ◌≤◌, ◌<◌, mul_assoc, arith, List, ℤ, length, take, drop}
use native.Mathlib.Nat.{mul-le-mul}
use Rattle.lists.proofs.Tab.{length_part}
use Rattle.format.specs.Sizes.{Colour, green, red, blue, l1, l2, l3, Group, base, detail, final, present, multiplier, components, columns, work_length}
use Rattle.format.specs.Numbers.{packet_rows}
use Rattle.format.specs.Writing.{records}
use Rattle.format.proofs.Numbered.{present-of}
use Rattle.encoding.specs.Numbers.{Small, line}
use Rattle.assembly.specs.Packet.{Sound}
use Rattle.assembly.specs.declared.packet.Shape.{Shape}
use Rattle.assembly.specs.declared.place.Located.{Located}
use Rattle.assembly.specs.Tile.{unit_of, packet_at, shape_of, Tile, group_in, colour_in, shape_in, numbers_in}

pub present-in : (p : ℕ) → p < 13 → present (group_in p) (colour_in p) ≡ true
present-in p h = present-of (p / 3) (p % 3) (λ l. omega arith)

-- every shape is sound
pub sound : (w k : ℕ) (g : Group) → w < 2 ^ 16 → k ≤ 2049 → Sound (shape_of w k g)
sound w k base a b = record { kind = omega arith; low = omega arith; narrow = omega arith; few = b }
sound w k (detail l1) a b = record { kind = omega arith; low = omega arith; narrow = omega arith; few = b }
sound w k (detail l2) a b = record { kind = omega arith; low = omega arith; narrow = omega arith; few = b }
sound w k (detail l3) a b = record { kind = omega arith; low = omega arith; narrow = omega arith; few = b }
sound w k final a b = record { kind = omega arith; low = omega arith; narrow = omega arith; few = b }

-- the numbers of a packet, in units of k * c
size_is : (w k c : ℕ) (g : Group) (n : ℕ) → components g * multiplier g * columns w g ≡ n * c → packet_rows g k * columns w g ≡ n * (k * c)
size_is w k c g n e =
    mul_assoc k (components g * multiplier g) (columns w g) ∙ ap (λ (m : ℕ). k * m) e ∙ omega (arith, mul_assoc k n c)

module _ (w k : ℕ) (even : w % 16 ≡ 0) where
  pub packet-within : (g : Group) (i : Colour) → packet_at (k * (w / 16)) g i + packet_rows g k * columns w g ≤ 256 * (k * (w / 16))
  packet-within base green = omega (arith, size_is w k (w / 16) base 1 (omega arith))
  packet-within base red = omega (arith, size_is w k (w / 16) base 1 (omega arith))
  packet-within base blue = omega (arith, size_is w k (w / 16) base 1 (omega arith))
  packet-within (detail l1) green = omega (arith, size_is w k (w / 16) (detail l1) 3 (omega arith))
  packet-within (detail l1) red = omega (arith, size_is w k (w / 16) (detail l1) 3 (omega arith))
  packet-within (detail l1) blue = omega (arith, size_is w k (w / 16) (detail l1) 3 (omega arith))
  packet-within (detail l2) green = omega (arith, size_is w k (w / 16) (detail l2) 12 (omega arith))
  packet-within (detail l2) red = omega (arith, size_is w k (w / 16) (detail l2) 12 (omega arith))
  packet-within (detail l2) blue = omega (arith, size_is w k (w / 16) (detail l2) 12 (omega arith))
  packet-within (detail l3) green = omega (arith, size_is w k (w / 16) (detail l3) 48 (omega arith))
  packet-within (detail l3) red = omega (arith, size_is w k (w / 16) (detail l3) 48 (omega arith))
  packet-within (detail l3) blue = omega (arith, size_is w k (w / 16) (detail l3) 48 (omega arith))
  packet-within final i = omega (arith, size_is w k (w / 16) final 64 (omega arith))

-- however tall a tile is, a packet's numbers can be counted
pub numbers_few : (w k : ℕ) (g : Group) (r : Shape) → r ≡ shape_of w k g → w < 2 ^ 16 → k ≤ 8193 → r.records * (r.rows * r.cols) ≤ 8193 * (8 * 65536)
numbers_few w k g r e narrow few = rw e (mul-le-mul {n₁ = k} {m₁ = components g * multiplier g * columns w g} {n₂ = 8193} {m₂ = 8 * 65536} few (of_record g))
  where
    of_record : (g : Group) → components g * multiplier g * columns w g ≤ 8 * 65536
    of_record base = omega arith
    of_record (detail l1) = omega arith
    of_record (detail l2) = omega arith
    of_record (detail l3) = omega arith
    of_record final = omega arith

-- ---- the sizes of a tile
pub records-few : (H : ℕ) → H ≤ 32767 → records H ≤ 2049
records-few H h = omega arith

-- all of them are the numbers of the work slice
pub work-units : (w H : ℕ) → w % 16 ≡ 0 → work_length w H ≡ 256 * unit_of w H
work-units w H even =
    let c = w / 16 in
    let e : w ≡ 16 * c = omega arith in
    ap (λ (n : ℕ). 16 * records H * n) e ∙ omega (arith, mul_assoc 16 (records H) (16 * c), mul_assoc (records H) 16 c)

-- ---- packet p, read off the work slice by its shape and its place
module _ (w H : ℕ) (work : List ℤ) (t : Tile w H work) (p : ℕ) (h : p < 13) (r : Located) where
  module _ (ez : r.shape ≡ shape_in w H p) (ea : r.start ≡ packet_at (unit_of w H) (group_in p) (colour_in p)) (ee : r.end ≡ r.start + r.shape.records * (r.shape.rows * r.shape.cols)) where
    abbrev count : ℕ
    count = r.shape.records * (r.shape.rows * r.shape.cols)

    pub in-sound : Sound r.shape
    in-sound = rw ez (sound w (records H) (group_in p) t.narrow (records-few H t.tall))

    count-is : count ≡ packet_rows (group_in p) (records H) * columns w (group_in p)
    count-is =
        let g = group_in p in
        (λ i. (ez i).records * ((ez i).rows * (ez i).cols)) ∙ sym (mul_assoc (records H) (components g * multiplier g) (columns w g))

    pub in-fits : r.end ≤ length work
    in-fits = omega (arith, ea, ee, count-is, packet-within w (records H) t.even (group_in p) (colour_in p), t.long)

    pub in-part : take (r.end - r.start) (drop r.start work) ≡ numbers_in w H work p
    in-part = let e : r.end - r.start ≡ packet_rows (group_in p) (records H) * columns w (group_in p) = omega (arith, ee, count-is) in λ i. take (e i) (drop (ea i) work)

    pub in-length : length (take (r.end - r.start) (drop r.start work)) ≡ count
    in-length =
        let e : r.end - r.start ≡ count = omega (arith, ee) in
        ap (λ (n : ℕ). length (take n (drop r.start work))) e ∙ length_part work r.start count (omega (arith, ee, in-fits))

    pub in_small : Small (line (take (r.end - r.start) (drop r.start work)))
    in_small = rw in-part (t.small (group_in p) (colour_in p) (present-in p h))
