-- `returning::undo_sums` meets its contract: the steps up to z stand there, and are checked. Assumes nothing.
use Rattle.std.proofs.Common.{◌≡◌, w16}
use Rattle.lists.specs.Lists.{fill}
use Rattle.wrap32.specs.Cut.{cut}
use Rattle.lifting.specs.Lift.{at}
use Rattle.refusals.specs.Number.{code_of}
use Rattle.format.specs.Recovery.{before}
use Rattle.returning.specs.Return.{step_of, steps_refusal}
use Rattle.returning.proofs.undo_sums.Given as goal

abbrev pub invariant-loop-z : goal.invariant-loop-z
invariant-loop-z l =
    (l.last ≡ before (at l.initial.row) l.z-index) × (l.row ≡ fill l.initial.row l.z-index (λ k. cut w16 (step_of l.initial.row k)))
    × (code_of l.checked ≡ steps_refusal l.z-index l.initial.row)
