-- `green::full_row` meets its contract: the first 2 x places hold the formula. Assumes nothing.
use Rattle.std.proofs.Common.{◌≡◌, ◌*◌}
use Rattle.lists.specs.Lists.{fill}
use Rattle.green.specs.Green.{full_at}
use Rattle.green.proofs.full_row.Given as goal

abbrev pub invariant-loop-x : goal.invariant-loop-x
invariant-loop-x l = l.dst ≡ fill l.fn.dst (2 * l.x) (full_at l.here l.next l.d)
