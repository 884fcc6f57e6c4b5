-- Each payload starts where the one before it ends.
use Rattle.std.proofs.Common.{◌≡◌, ◌+◌, ◌*◌, ◌^◌, ◌≤◌}
use Rattle.format.specs.Packets.{payload_at}
use Rattle.inspection.proofs.payload_at.Given as goal

abbrev pub invariant-loop-k : goal.invariant-loop-k
invariant-loop-k l = record { place : l.at ≡ payload_at l.packet l.k; bound : l.at ≤ 2 ^ 20 + l.k * 2 ^ 16 }
