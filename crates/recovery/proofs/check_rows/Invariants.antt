-- `recovery::check_rows` meets its contract: no number of the rows before y is too large. Assumes nothing.
use Rattle.std.proofs.Common.{◌≡◌}
use Rattle.format.specs.Refusals.{each}
use Rattle.recovery.specs.Recovered.{row_refused}
use Rattle.recovery.proofs.check_rows.Given as goal

abbrev pub invariant-loop-y : goal.invariant-loop-y
invariant-loop-y l = each (row_refused l.work l.from l.e l.gap l.c) l.y ≡ 0
