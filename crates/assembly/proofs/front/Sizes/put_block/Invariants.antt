-- `put_block` meets its contract. Assumes nothing.
use Rattle.lists.specs.Lists.{rows}
use Rattle.format.specs.Writing.{number_bits}
use Rattle.codes.specs.Wrote.{Appends}
use Rattle.assembly.specs.Front.{entry_of}
use Rattle.assembly.proofs.front.Sizes.put_block.Given as goal

abbrev pub invariant-loop-k : goal.invariant-loop-k
invariant-loop-k l = Appends l.initial.w l.w (rows l.k (λ k. number_bits 24 (entry_of l.self.units.each l.group k)))
