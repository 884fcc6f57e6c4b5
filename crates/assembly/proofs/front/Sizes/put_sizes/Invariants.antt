-- `put_sizes` meets its contract. Assumes nothing.
use Rattle.codes.specs.Wrote.{Appends}
use Rattle.assembly.specs.Front.{sizes_of}
use Rattle.assembly.proofs.front.Sizes.put_sizes.Given as goal

abbrev pub invariant-loop-g : goal.invariant-loop-g
invariant-loop-g l = Appends l.initial.w l.w (sizes_of l.self.units.each l.g)
