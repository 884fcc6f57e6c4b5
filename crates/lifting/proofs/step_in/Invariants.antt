-- The first x places from `to` on hold the steps, the rest is as it was.
use Rattle.std.proofs.Common.{◌≡◌, length}
use Rattle.lists.specs.Lists.{part, put_at}
use Rattle.lifting.specs.Lift.{step_row}
use Rattle.lifting.proofs.step_in.Given as goal

abbrev pub invariant-loop-x : goal.invariant-loop-x
invariant-loop-x g l =
    l.ring ≡ put_at l.initial.ring l.to (step_row g.S.Step.step l.x l.row (part l.initial.ring l.a (length l.row)) (part l.initial.ring l.b (length l.row)))
