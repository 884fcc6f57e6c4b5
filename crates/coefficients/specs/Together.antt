-- A packet, sizes and a band that `decode_packet` takes, and the answer.
use Rattle.std.specs.Prelude.{List, Bool, cond, ◌&&◌, ℕ, ◌*◌, ◌^◌, length, leb, ltb, eqb}
use Rattle.format.specs.Packets.{kind, blocks}
use Rattle.format.specs.Counts.{packet_count}
use Rattle.format.specs.Used.{packet_used}
use Rattle.coefficients.specs.declared.PacketCounts.{PacketCounts}

-- whether a packet has its header and at most n records, n records of m rows for each component fill a band of a size, and the sizes are small
unfoldable pub together : List ℕ → ℕ → ℕ → ℕ → ℕ → Bool
together p m cols n size =
    leb 16 (length p) && leb m 8 && ltb cols (2 ^ 16) && ltb n (2 ^ 16) && leb (blocks p) n && eqb size (n * (kind p * m * cols))

-- the counts of a packet that goes together with sizes and band; else every field 0
abbrev pub answer_of : Bool → List ℕ → ℕ → ℕ → PacketCounts
answer_of fits p m cols =
    cond fits (record { together = 1; broken = packet_count 1 p m cols; spent = packet_count 2 p m cols; bits = packet_used p m cols })
    (record { together = 0; broken = 0; spent = 0; bits = 0 })
