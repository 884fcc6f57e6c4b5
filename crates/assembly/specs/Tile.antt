-- Where the packets of a tile of coded size w, H stand in the work slice when they are written, and what is known of them there.
use Rattle.std.specs.Prelude.{◌≡◌, true, List, ℕ, ◌+◌, ◌*◌, ◌/◌, ◌%◌, ◌^◌, ◌≤◌, ◌<◌, ℤ, length}
use Rattle.lists.specs.Lists.{tab, part}
use Rattle.format.specs.Packets.{sum}
use Rattle.format.specs.Sizes.{Colour, index, l1, l2, l3, Group, base, detail, final, present, multiplier, components, columns, numbered, indexed}
use Rattle.format.specs.Coefficients.{Coefs}
use Rattle.format.specs.Numbers.{packet_rows, packet_numbers}
use Rattle.format.specs.Writing.{records, packet_units, lengths_refusal, stream_length}
use Rattle.encoding.specs.Numbers.{Small, line}
use Rattle.assembly.specs.declared.front.Sizes.{Sizes}
use Rattle.assembly.specs.declared.front.Units.{Units}
use Rattle.assembly.specs.declared.packet.Shape.{Shape}
use Rattle.assembly.specs.Front.{group_of}
use Rattle.assembly.specs.Packet.{units_of, long_refusal, bits_in}

-- a tile has 256 units of so many numbers: 64 for each index, groups 0 to 3 one after the other, and 64 for group 4
abbrev pub unit_of : ℕ → ℕ → ℕ
unit_of w H = records H * (w / 16)

abbrev pub packet_at : ℕ → Group → Colour → ℕ
packet_at u base i = index i * (64 * u)
packet_at u (detail l1) i = index i * (64 * u) + u
packet_at u (detail l2) i = index i * (64 * u) + 4 * u
packet_at u (detail l3) i = index i * (64 * u) + 16 * u
packet_at u final i = 192 * u

-- the numbers that stand there
abbrev pub packet_in : ℕ → ℕ → Group → Colour → List ℤ → List ℤ
packet_in w H g i work = part work (packet_at (unit_of w H) g i) (packet_rows g (records H) * columns w g)

-- the shape of a group's packets, of k records
abbrev pub shape_of : ℕ → ℕ → Group → Shape
shape_of w k g = record { components = components g; rows = components g * multiplier g; cols = columns w g; records = k }

-- a work slice of a tile whose numbers may be written
pub record Tile (w H : ℕ) (work : List ℤ) : Type 0 where
  pub wide : 16 ≤ w
  pub narrow : w < 2 ^ 16
  pub even : w % 16 ≡ 0
  pub tall : H ≤ 32767
  pub long : 256 * unit_of w H ≤ length work
  pub small : (g : Group) (i : Colour) → present g i ≡ true → Small (line (packet_in w H g i work))

-- its numbers are the coefficients v
pub record Holds (w H : ℕ) (v : Coefs) (work : List ℤ) : Type 0 where
  pub stand : (g : Group) (i : Colour) → present g i ≡ true → packet_in w H g i work ≡ packet_numbers w g (records H) (v g i)

-- the 13 packets in the order of the stream: their groups and colours
abbrev pub group_in : ℕ → Group
group_in p = numbered (p / 3)

abbrev pub colour_in : ℕ → Colour
colour_in p = indexed (p % 3)

-- the shape of packet p; what is read off the work slice of it: its numbers, units, refusal and bits
abbrev pub shape_in : ℕ → ℕ → ℕ → Shape
shape_in w H p = shape_of w (records H) (group_in p)

module _ (w H : ℕ) (work : List ℤ) (p : ℕ) where
  abbrev pub numbers_in : List ℤ
  numbers_in = packet_in w H (group_in p) (colour_in p) work

  unfoldable pub units_in : ℕ
  units_in = units_of (shape_in w H p) numbers_in

  unfoldable pub refusal_in : ℕ
  refusal_in = long_refusal (shape_in w H p) numbers_in

  unfoldable pub packet_bits_in : List ℕ
  packet_bits_in = bits_in (shape_in w H p) numbers_in

-- no length is too large for its field
pub record Short (w H : ℕ) (work : List ℤ) : Type 0 where
  pub records : (p : ℕ) → p < 13 → refusal_in w H work p ≡ 0
  pub units : (p : ℕ) → p < 13 → units_in w H work p < 2 ^ 24

-- what is counted of the coefficients v, whether they pass or not: the units of their packets, and the length that a stream of these has
pub record Counted (w H : ℕ) (v : Coefs) (u : Units) : Type 0 where
  pub units : u.each ≡ tab 13 (λ p. packet_units w H v (group_in p) (colour_in p))
  pub long : 128 + 16 * sum (group_of u.each) 5 ≡ stream_length w H v

-- what is measured of the coefficients v
pub record Measured (w H : ℕ) (v : Coefs) (r : Sizes) : Type 0 where
  pub long : r.length ≡ stream_length w H v
  pub units : r.units.each ≡ tab 13 (λ p. packet_units w H v (group_in p) (colour_in p))

-- some coefficients in the work slice, measured, that fill a stream of n bytes
pub record Ready (w H : ℕ) (work : List ℤ) (r : Sizes) (n : ℕ) : Type 0 where
  pub v : Coefs
  pub holds : Holds w H v work
  pub measured : Measured w H v r
  pub accepted : lengths_refusal w H v ≡ 0
  pub long : n ≡ stream_length w H v
