-- `passes::pass::Pass::into_plane` meets its contract: k pairs of rows are written. Assumes nothing.
use Rattle.std.proofs.Common.{◌≡◌, ◌+◌, ◌*◌}
use Rattle.lists.specs.Lists.{over}
use Rattle.passes.specs.Level.{passed_two}
use Rattle.passes.specs.Turn.{Ready}
use Rattle.passes.proofs.pass.Pass.into_plane.Given as goal

abbrev pub invariant-loop-k : goal.invariant-loop-k
invariant-loop-k l =
    (l.t.y ≡ l.from + l.k) × Ready l.self l.work l.ring l.t
    × (l.plane ≡ over (4 * l.self.g.c) l.initial.plane l.k (λ j. passed_two l.self.leads l.self.g l.self.m l.work (l.from + j)))
