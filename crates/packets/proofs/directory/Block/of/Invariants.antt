-- `packets::directory::Block::of` meets its contract. Assumes nothing.
use Rattle.std.proofs.Common.{◌≡◌, ◌+◌, ◌*◌, ◌≤◌}
use Rattle.format.specs.Packets.{block_at}
use Rattle.packets.proofs.directory.Block.of.Given as goal

abbrev pub invariant-loop-i : goal.invariant-loop-i
invariant-loop-i l = (l.at ≡ block_at l.stream l.i) × (l.at ≤ 48 + l.i * 32)
