-- acc is the sum of the first x numbers, whose places hold the formula; the rest is as it was.
use Rattle.std.proofs.Common.{◌≡◌}
use Rattle.std.specs.Int.{w16}
use Rattle.wrap32.specs.Cut.{cut}
use Rattle.wrap32.specs.Arithmetic.{wrapping}
use Rattle.lists.specs.Lists.{fill}
use Rattle.format.specs.Synthesis.{sum_of}
use Rattle.lifting.specs.Lift.{at, sum_at}
use Rattle.lifting.proofs.integrate_row.Given as goal

abbrev pub invariant-loop-x : goal.invariant-loop-x
invariant-loop-x l = record {
  sum : l.acc ≡ sum_of wrapping (λ k. cut w16 (at l.initial.row k)) l.x-index;
  filled : l.row ≡ fill l.initial.row l.x-index (sum_at l.initial.row);
}
