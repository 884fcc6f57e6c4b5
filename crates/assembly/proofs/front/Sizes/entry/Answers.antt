-- `entry` meets its contract. Assumes nothing.
use Rattle.std.proofs.Common.{refl, lt-ltb, le-ltb, arith}
use Rattle.format.specs.Sizes.{numbered}
use Rattle.format.specs.Writing.{entries}
use Rattle.assembly.specs.Front.{entry_of}
use Rattle.assembly.proofs.Fronts.{entry-narrow}
use Rattle.assembly.proofs.front.Sizes.entry.Goals as goal

pub returns-then-k-entries : goal.returns-then-k-entries
unfolding entry_of
returns-then-k-entries c =
    let x = c.args in
    let t = lt-ltb x.k (entries (numbered x.group)) (rw (← c.entries.ensures.0) c.if-k-entries.true) in
    (rw t refl, rw t at (entry-narrow x.self.now.units.each x.group x.k x.self.now.narrow c.requires))

pub returns-else-k-entries : goal.returns-else-k-entries
unfolding entry_of
returns-else-k-entries c = (rw (le-ltb c.args.k (entries (numbered c.args.group)) (rw (← c.entries.ensures.0) c.if-k-entries.false)) refl, omega arith)
