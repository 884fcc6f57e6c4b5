-- The first x places hold the formula, the rest is as it was.
use Rattle.std.proofs.Common.{◌≡◌}
use Rattle.lists.specs.Lists.{fill}
use Rattle.lifting.specs.Lift.{edge_at}
use Rattle.lifting.proofs.edge_row.Given as goal

abbrev pub invariant-loop-x : goal.invariant-loop-x
invariant-loop-x l = l.row ≡ fill l.initial.row l.x-index (edge_at l.odd l.initial.row)
