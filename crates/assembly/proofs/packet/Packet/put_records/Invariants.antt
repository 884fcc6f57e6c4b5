-- `put_records` meets its contract. Assumes nothing.
use Rattle.std.proofs.Common.{◌≡◌}
use Rattle.codes.specs.Wrote.{Appends}
use Rattle.assembly.specs.Packet.{heads_of, records_of}
use Rattle.assembly.proofs.packet.Packet.put_records.Given as goal

abbrev pub invariant-loop-k : goal.invariant-loop-k
invariant-loop-k l =
    Appends l.initial.head l.head (heads_of l.self.shape l.self.numbers.now l.k) × Appends l.initial.payload l.payload (records_of l.self.shape l.self.numbers.now l.k) × (l.payload.held ≡ 0)
