-- `returning::steps_back` meets its contract: y rows of steps are laid, and checked. Assumes nothing.
use Rattle.std.proofs.Common.{◌≡◌}
use Rattle.refusals.specs.Number.{code_of}
use Rattle.returning.specs.Return.{steps_laid, steps_refused}
use Rattle.returning.proofs.steps_back.Given as goal

abbrev pub invariant-loop-y : goal.invariant-loop-y
invariant-loop-y l = (code_of l.checked ≡ steps_refused l.r.c l.r.from l.r.t l.y l.initial.work) × (l.work ≡ steps_laid l.r.c l.r.from l.r.t l.to l.y l.initial.work)
