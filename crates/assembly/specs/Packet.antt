-- A packet from the list of its numbers, record after record: its bits, and what it takes.
use Rattle.std.specs.Prelude.{List, ◌++◌, ℕ, ◌+◌, ◌-◌, ◌*◌, ◌/◌, ◌^◌, ◌≤◌, ◌<◌, ℤ, ltb}
use Rattle.lists.specs.Lists.{rows, part}
use Rattle.format.specs.Packets.{sum}
use Rattle.format.specs.Refusals.{on, each}
use Rattle.format.specs.Writing.{number_bits, zero_bits, units, filled}
use Rattle.encoding.specs.Record.{record_in}
use Rattle.assembly.specs.declared.packet.Shape.{Shape}

-- a shape that some packet has
pub record Sound (z : Shape) : Type 0 where
  pub kind : z.components ≤ 3
  pub low : z.rows ≤ 12
  pub narrow : z.cols < 2 ^ 15
  pub few : z.records ≤ 2049

-- the units up to the payload
unfoldable pub head_units_of : Shape → ℕ
head_units_of z = (128 + (16 + 4 * z.components) * z.records + 127) / 128

-- the packet header, where the payload takes n units
unfoldable pub open_bits : Shape → ℕ → List ℕ
open_bits z n =
    number_bits 16 (head_units_of z - 1) ++ (number_bits 24 n ++ (number_bits 4 4 ++ (zero_bits 4 ++ (number_bits 2 z.components ++ (zero_bits 6
    ++ (number_bits 16 z.records ++ (number_bits 8 16 ++ (zero_bits 8 ++ zero_bits 40))))))))

-- a record header, of so many bytes
abbrev pub head_of : Shape → ℕ → List ℕ
head_of z n = number_bits 16 n ++ zero_bits (4 * z.components)

module _ (z : Shape) (l : List ℤ) where
  -- record k: its numbers, its bits, and the whole bytes that hold them
  abbrev pub numbers_at : ℕ → List ℤ
  numbers_at k = part l (k * (z.rows * z.cols)) (z.rows * z.cols)

  unfoldable pub bits_of : ℕ → List ℕ
  bits_of k = record_in z.cols z.rows (numbers_at k)

  abbrev pub bytes_of : ℕ → ℕ
  bytes_of k = units 8 (bits_of k)

  -- the units of the payload, and of the packet
  unfoldable pub payload_of : ℕ
  payload_of = (sum bytes_of z.records + 15) / 16

  abbrev pub units_of : ℕ
  units_of = head_units_of z + payload_of

  -- 26 for a record of more than 65,535 bytes
  unfoldable pub long_refusal : ℕ
  long_refusal = each (λ k. on (ltb 65535 (bytes_of k)) 26) z.records

  -- the headers of n records, those records, and the packet
  abbrev pub heads_of : ℕ → List ℕ
  heads_of n = rows n (λ k. head_of z (bytes_of k))

  abbrev pub records_of : ℕ → List ℕ
  records_of n = rows n (λ k. filled 8 (bits_of k))

  unfoldable pub bits_in : List ℕ
  bits_in = filled 128 (open_bits z payload_of ++ heads_of z.records) ++ filled 128 (records_of z.records)
