-- The first x places hold the steps, the rest is as it was.
use Rattle.std.proofs.Common.{◌≡◌}
use Rattle.lists.specs.Lists.{fill}
use Rattle.lifting.specs.Lift.{step_at}
use Rattle.lifting.proofs.step_row.Given as goal

abbrev pub invariant-loop-x : goal.invariant-loop-x
invariant-loop-x g l = l.dst ≡ fill l.initial.dst l.x (step_at g.S.Step.step l.row l.a l.b)
