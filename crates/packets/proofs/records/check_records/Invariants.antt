-- The records passed lie within the packet; the next one's bytes start where the last one's end.
use Rattle.std.proofs.Common.{◌≡◌, ◌+◌, ◌*◌, ◌^◌, ◌≤◌}
use Rattle.format.specs.Packets.{payload_at}
use Rattle.format.specs.Refusals.{each, record_refusal}
use Rattle.packets.proofs.records.check_records.Given as goal

abbrev pub invariant-loop-i : goal.invariant-loop-i
invariant-loop-i l = record {
  passed : each (record_refusal l.packet) l.i ≡ 0;
  place : l.at ≡ payload_at l.packet l.i;
  bound : l.at ≤ 2 ^ 20 + l.i * 2 ^ 16;
}
