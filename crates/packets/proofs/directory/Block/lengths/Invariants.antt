-- `packets::directory::Block::lengths` meets its contract. Assumes nothing.
use Rattle.std.proofs.Common.{◌≡◌, ◌*◌, ◌^◌, ◌≤◌}
use Rattle.format.specs.Packets.{sum, entry_length}
use Rattle.packets.proofs.directory.Block.lengths.Given as goal

abbrev pub invariant-loop-i : goal.invariant-loop-i
invariant-loop-i l = (l.total ≡ sum (entry_length l.self.stream.now l.self.at) l.i) × (l.total ≤ l.i * 2 ^ 28)
