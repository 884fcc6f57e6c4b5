-- The first x details stand.
use Rattle.std.proofs.Common.{◌≡◌}
use Rattle.lists.specs.Lists.{fill}
use Rattle.undoing.specs.Undo.{detail_of}
use Rattle.undoing.proofs.details_row.Given as goal

abbrev pub invariant-loop-x : goal.invariant-loop-x
invariant-loop-x l = l.out ≡ fill l.initial.out l.x (detail_of l.row l.next)
