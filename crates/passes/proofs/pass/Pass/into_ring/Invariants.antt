-- `passes::pass::Pass::into_ring` meets its contract: k pairs of rows are laid into the ring from out on. Assumes nothing.
use Rattle.std.proofs.Common.{◌≡◌, ◌+◌}
use Rattle.passes.specs.Level.{pairs_in}
use Rattle.passes.specs.Turn.{Ready}
use Rattle.passes.proofs.pass.Pass.into_ring.Given as goal

abbrev pub invariant-loop-k : goal.invariant-loop-k
invariant-loop-k l =
    (l.t.y ≡ l.from + l.k) × Ready l.self l.work l.ring l.t
    × (l.work ≡ pairs_in l.self.leads l.self.g l.self.m l.out l.pairs l.initial.work l.from l.k)
