-- `packets::directory::parse_directory` meets its contract. Assumes nothing.
use Rattle.std.proofs.Common.{◌≡◌}
use Rattle.format.specs.Refusals.{each, group_refusal}
use Rattle.packets.proofs.directory.parse_directory.Given as goal

abbrev pub invariant-loop-group : goal.invariant-loop-group
invariant-loop-group l = (each (group_refusal l.stream) l.group ≡ 0)
