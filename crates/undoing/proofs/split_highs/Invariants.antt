-- The first x highs stand.
use Rattle.std.proofs.Common.{◌≡◌, ◌*◌}
use Rattle.lists.specs.Lists.{part, put_at, tab}
use Rattle.format.specs.Lifting.{low_leads, highs_of}
use Rattle.lifting.specs.Lift.{at}
use Rattle.undoing.proofs.split_highs.Given as goal

abbrev pub invariant-loop-x : goal.invariant-loop-x
invariant-loop-x l = l.work ≡ put_at l.initial.work l.to (tab l.x (highs_of low_leads l.c (at (part l.initial.work l.from (2 * l.c)))))
