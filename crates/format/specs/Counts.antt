-- Broken records and spent ones: document 02, Job 1.
use Rattle.std.specs.Prelude.{List, cond, ℕ, ◌+◌, ◌*◌, eqb}
use Rattle.format.specs.Sizes.{Colour, index, Group, number, multiplier, columns}
use Rattle.format.specs.Strip.{width}
use Rattle.format.specs.Packets.{sum, packet_of, kind, blocks, record_length, selector, payload_at}
use Rattle.format.specs.Refusals.{each}
use Rattle.format.specs.Reader.{Reader, start_of}
use Rattle.format.specs.Coefficients.{rows_of, tile_sum}

-- the first status that was not 0 in n rows by one reader, 0 if none was. It is looked at after each row: within a row a status that is set
-- stays (StatusLaws `row_keeps`)
unfoldable pub first_status : List ℕ → (ℕ → ℕ) → ℕ → ℕ → ℕ → Reader → ℕ
first_status s sel m cols n r = each (λ k. (rows_of s sel m cols (k + 1) 0 r).reader.status) n

-- what record i of packet p goes by: 1, it met a width above 19, is broken; 2, it ran past its allowance, is spent; byte length 0 is neither
unfoldable pub record_status : List ℕ → ℕ → ℕ → ℕ → ℕ
record_status p m cols i =
    cond (eqb (record_length p i) 0) 0
    (first_status p (selector p i) m cols (kind p * m) (start_of (payload_at p i) (record_length p i)))

-- what a record that goes by `status` counts among those that go by k
abbrev pub goes_by : ℕ → ℕ → ℕ
goes_by k status = cond (eqb status k) 1 0

-- how many records of a packet go by k, and of the packet of a group and an index; a record that is missing is none
unfoldable pub packet_count : ℕ → List ℕ → ℕ → ℕ → ℕ
packet_count k p m cols = sum (λ i. goes_by k (record_status p m cols i)) (blocks p)

unfoldable pub group_count : ℕ → List ℕ → Group → Colour → ℕ
group_count k s g i = packet_count k (packet_of s (number g) (index i)) (multiplier g) (columns (width s) g)

-- the broken records of the tile's 13 packets, and the spent ones
unfoldable pub broken_of : List ℕ → ℕ
broken_of s = tile_sum (group_count 1 s)

unfoldable pub spent_of : List ℕ → ℕ
spent_of s = tile_sum (group_count 2 s)
