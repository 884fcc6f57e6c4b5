-- `tile::decode_planes` meets its contract. Assumes nothing.
use Rattle.std.proofs.Common.{◌≡◌}
use Rattle.tile.specs.Going.{Going}
use Rattle.tile.proofs.PacketLaws.{counts_by}
use Rattle.tile.proofs.decode_planes.Given as goal

abbrev pub invariant-loop-p : goal.invariant-loop-p
invariant-loop-p l = (l.counts ≡ counts_by l.checked.stream l.p) × Going l.checked.stream l.z l.p 0 l.work l.full l.red l.blue
