-- Bits used: document 02, Job 3. What rows, records, packets and the tile take from their allowances.
use Rattle.std.specs.Prelude.{List, ◌++◌, Bool, cond, not, ◌&&◌, ℕ, ◌-◌, ◌*◌, ◌/◌, ltb, eqb, ℤ, length, drop}
use Rattle.format.specs.Sizes.{Colour, index, Group, number, packet_group, packet_index, group_in, multiplier, components, columns}
use Rattle.format.specs.Strip.{width, valid_header}
use Rattle.format.specs.Packets.{sum, packet_of, kind, blocks, record_length, selector, payload_at}
use Rattle.format.specs.Refusals.{◌▷◌, on, directory_refusal, packets_refusal}
use Rattle.format.specs.Reader.{Reader, allowance, start_of}
use Rattle.format.specs.Coefficients.{row_of, rows_of, record_of, tile_sum}
use Rattle.format.specs.Counts.{record_status, goes_by}

-- the bits that a row of n columns takes: what it leaves of the allowance, off what it finds. A read that runs out leaves nothing, so it takes
-- what was left, and the zeros after it take nothing (UsedLaws `read-used`, `unary-used`, `find-used`)
unfoldable pub row_used : List ℕ → ℕ → ℕ → Reader → ℕ
row_used s sel n r = r.remaining - (row_of s sel n r).reader.remaining

-- n rows by one reader, each from where the rows before it left it
unfoldable pub rows_used : List ℕ → (ℕ → ℕ) → ℕ → ℕ → ℕ → Reader → ℕ
rows_used s sel m cols n r = sum (λ k. row_used s (sel (k / m)) cols (rows_of s sel m cols k 0 r).reader) n

-- record i of packet p; byte length 0 takes none
unfoldable pub record_used : List ℕ → ℕ → ℕ → ℕ → ℕ
record_used p m cols i =
    cond (eqb (record_length p i) 0) 0 (rows_used p (selector p i) m cols (kind p * m) (start_of (payload_at p i) (record_length p i)))

-- a packet's records, and those of the packet of a group and an index; a record that is missing takes none
unfoldable pub packet_used : List ℕ → ℕ → ℕ → ℕ
packet_used p m cols = sum (record_used p m cols) (blocks p)

unfoldable pub group_used : List ℕ → Group → Colour → ℕ
group_used s g i = packet_used (packet_of s (number g) (index i)) (multiplier g) (columns (width s) g)

-- the tile's 13 packets
unfoldable pub bits_of : List ℕ → ℕ
bits_of s = tile_sum (group_used s)

-- ---- one record, for the rig: packet q of the 13, in the order of document 01's checks, and record i in it
abbrev pub packet_in : List ℕ → ℕ → List ℕ
packet_in s q = packet_of s (packet_group q) (packet_index q)

unfoldable pub has_record : List ℕ → ℕ → ℕ → Bool
has_record s q i = ltb q 13 && ltb i (blocks (packet_in s q))

-- how many numbers it has, and which
unfoldable pub numbers_in : List ℕ → ℕ → ℕ
numbers_in s q = components (group_in q) * multiplier (group_in q) * columns (width s) (group_in q)

unfoldable pub values_in : List ℕ → ℕ → ℕ → List ℤ
values_in s q i = (record_of (packet_in s q) (multiplier (group_in q)) (columns (width s) (group_in q)) i).values

-- the tile's refusals but 3 and 4; then 4 where a record that is there has more numbers than the lent band
unfoldable pub stream_refusal : List ℕ → ℕ
stream_refusal s = on (not (valid_header s)) 2 ▷ directory_refusal s ▷ packets_refusal s

unfoldable pub inspect_refusal : List ℕ → ℕ → ℕ → ℕ → ℕ
inspect_refusal s q i band_n = stream_refusal s ▷ on (has_record s q i && ltb band_n (numbers_in s q)) 4

-- the answer: a refusal, or none for a record that isn't there, with every other field 0; or byte length, allowance, bits used, and 1 where
-- the record is broken or spent
pub record Inspected : Type 0 where
  pub refusal : ℕ
  pub bytes : ℕ
  pub allowance : ℕ
  pub bits : ℕ
  pub broken : ℕ
  pub spent : ℕ

abbrev pub nothing : ℕ → Inspected
nothing refusal = record { refusal = refusal; bytes = 0; allowance = 0; bits = 0; broken = 0; spent = 0 }

abbrev pub of_record : List ℕ → ℕ → ℕ → ℕ → Inspected
of_record p m cols i = record {
  refusal = 0;
  bytes = record_length p i;
  allowance = allowance (record_length p i);
  bits = record_used p m cols i;
  broken = goes_by 1 (record_status p m cols i);
  spent = goes_by 2 (record_status p m cols i);
}

unfoldable pub inspected : List ℕ → ℕ → ℕ → ℕ → Inspected
inspected s refusal q i =
    cond (eqb refusal 0 && has_record s q i) (of_record (packet_in s q) (multiplier (group_in q)) (columns (width s) (group_in q)) i) (nothing refusal)

-- the band after a call: the record's numbers from its start on, or as it was
unfoldable pub band_after : List ℕ → ℕ → ℕ → ℕ → List ℤ → List ℤ
band_after s refusal q i old = cond (eqb refusal 0 && has_record s q i) (values_in s q i ++ drop (length (values_in s q i)) old) old
