-- `returning::check_row` meets its contract: no number up to z is too large. Assumes nothing.
use Rattle.std.proofs.Common.{rules, ◌≡◌}
use Rattle.lifting.specs.Lift.{at}
use Rattle.refusals.specs.Number.{code_of}
use Rattle.refusals.proofs.Laws.{each-refused, each-passed}
use Rattle.format.specs.Writing.{too_large}
use Rattle.format.proofs.TurnLaws.{each_none}
use Rattle.returning.proofs.check_row.Goals.{After-check_size}
use Rattle.returning.proofs.check_row.Goals as goal

pub loop-z-init : goal.loop-z-init
loop-z-init c = each_none (λ x. too_large (at c.args.row.now x))

-- what refuses z
found : (c : After-check_size) → code_of c.check_size.result ≡ too_large (at c.args.row.now c.loop-z.z-index)
found c = search rules

pub returns-in_err-check_size : goal.returns-in_err-check_size
returns-in_err-check_size c =
    let d = (goal.at.returns-in_err-check_size c).After-check_size in
    each-refused _ c.loop-z.z-index c.loop-z.invariant _ (found d) _ _ _ (search rules) c.in_err-check_size.was c.from_residual.ensures.1

pub loop-z-preserved : goal.loop-z-preserved
loop-z-preserved c =
    let d = (goal.at.loop-z-preserved c).After-check_size in
    each-passed _ c.loop-z.z-index c.loop-z.invariant _ (found d) _ c.in_ok-check_size.was
