-- `packets::directory::Block::check_entries` meets its contract. What was passed lies within the stream; the next packet starts where the last one ends. Assumes nothing.
use Rattle.std.proofs.Common.{◌≡◌, ◌+◌, ◌*◌, ◌^◌, ◌≤◌}
use Rattle.format.specs.Packets.{packet_start}
use Rattle.format.specs.Refusals.{each, entry_refusal}
use Rattle.packets.proofs.directory.Block.check_entries.Given as goal

abbrev pub invariant-loop-index : goal.invariant-loop-index
invariant-loop-index l = (each (entry_refusal l.self.stream.now l.self.group) l.index ≡ 0) × (l.start ≡ packet_start l.self.stream.now l.self.group l.index) × (l.start ≤ 2 ^ 40 + l.index * 2 ^ 28)
