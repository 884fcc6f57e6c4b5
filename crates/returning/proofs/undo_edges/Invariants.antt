-- `returning::undo_edges` meets its contract: the numbers before z have E undone, and are checked. Assumes nothing.
use Rattle.std.proofs.Common.{◌≡◌}
use Rattle.lists.specs.Lists.{fill}
use Rattle.lifting.specs.Lift.{at}
use Rattle.refusals.specs.Number.{code_of}
use Rattle.format.specs.Table.{E}
use Rattle.format.specs.Recovery.{back}
use Rattle.returning.specs.Return.{row_refusal}
use Rattle.returning.proofs.undo_edges.Given as goal

abbrev pub invariant-loop-z : goal.invariant-loop-z
invariant-loop-z l =
    (l.row ≡ fill l.initial.row l.z-index (λ k. back l.odd (E 0 0) (at l.initial.row k)))
    × (code_of l.checked ≡ row_refusal l.odd (E 0 0) l.z-index l.initial.row)
