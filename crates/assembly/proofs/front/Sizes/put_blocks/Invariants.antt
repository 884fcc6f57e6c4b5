-- `put_blocks` meets its contract. Assumes nothing.
use Rattle.codes.specs.Wrote.{Appends}
use Rattle.assembly.specs.Front.{blocks_of}
use Rattle.assembly.proofs.front.Sizes.put_blocks.Given as goal

abbrev pub invariant-loop-g : goal.invariant-loop-g
invariant-loop-g l = Appends l.initial.w l.w (blocks_of l.self.units.each l.g)
