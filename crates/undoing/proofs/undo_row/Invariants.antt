-- The first x places from `to` on hold the steps, the rest is as it was.
use Rattle.std.proofs.Common.{◌≡◌}
use Rattle.lists.specs.Lists.{part, put_at}
use Rattle.lifting.specs.Lift.{step_row}
use Rattle.undoing.proofs.undo_row.Given as goal

abbrev pub invariant-loop-x : goal.invariant-loop-x
invariant-loop-x g l =
    l.work ≡ put_at l.initial.work l.to (step_row g.S.Step.step l.x (part l.initial.work l.to l.n) (part l.initial.work l.a l.n) (part l.initial.work l.b l.n))
