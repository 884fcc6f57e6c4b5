-- `returning::check_row` meets its contract: no number up to z is too large. Assumes nothing.
use Rattle.std.proofs.Common.{◌≡◌}
use Rattle.lifting.specs.Lift.{at}
use Rattle.format.specs.Refusals.{each}
use Rattle.format.specs.Writing.{too_large}
use Rattle.returning.proofs.check_row.Given as goal

abbrev pub invariant-loop-z : goal.invariant-loop-z
invariant-loop-z l = each (λ x. too_large (at l.row x)) l.z-index ≡ 0
