-- The first k numbers stand.
use Rattle.std.proofs.Common.{◌≡◌}
use Rattle.lists.specs.Lists.{tab, put_at}
use Rattle.lifting.specs.Lift.{at}
use Rattle.recovery.proofs.copy.Given as goal

abbrev pub invariant-loop-k : goal.invariant-loop-k
invariant-loop-k l = l.work ≡ put_at l.initial.work l.to (tab l.k (at l.plane))
