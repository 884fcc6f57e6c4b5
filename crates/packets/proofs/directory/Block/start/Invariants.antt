-- `packets::directory::Block::start` meets its contract. Assumes nothing.
use Rattle.std.proofs.Common.{◌≡◌, ◌+◌, ◌*◌, ◌^◌, ◌≤◌}
use Rattle.format.specs.Packets.{group_start}
use Rattle.packets.proofs.directory.Block.start.Given as goal

abbrev pub invariant-loop-i : goal.invariant-loop-i
invariant-loop-i l = (l.start ≡ group_start l.self.stream.now l.i) × (l.start ≤ 128 + l.i * 2 ^ 28)
