-- The first 2 x places hold the formula, and cur is the even result at x.
use Rattle.std.proofs.Common.{◌≡◌, ◌*◌, length}
use Rattle.lists.specs.Lists.{fill}
use Rattle.lifting.specs.Lift.{even_at, lift_at}
use Rattle.lifting.proofs.lift_row.Given as goal

abbrev pub invariant-loop-x : goal.invariant-loop-x
invariant-loop-x l = record {
  even : l.cur ≡ even_at l.low l.high l.x;
  filled : l.out ≡ fill l.initial.out (2 * l.x) (lift_at (length l.low) l.low l.high);
}
