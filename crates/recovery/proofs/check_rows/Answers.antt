-- `recovery::check_rows` meets its contract: no number of the rows before y is too large. Assumes nothing.
use Rattle.std.proofs.Common.{rules, arith, ◌≡◌, ◌∙◌, ap, ◌+◌, ◌-◌, ◌*◌, length}
use Rattle.lists.specs.Lists.{part}
use Rattle.lists.proofs.Tab.{length_part}
use Rattle.lifting.specs.Lift.{at}
use Rattle.refusals.specs.Number.{code_of}
use Rattle.refusals.proofs.Laws.{each-refused, each-passed}
use Rattle.format.specs.Refusals.{each}
use Rattle.format.specs.Writing.{too_large}
use Rattle.format.proofs.TurnLaws.{each_none}
use Rattle.undoing.specs.Down.{detail_at}
use Rattle.recovery.specs.Recovered.{row_refused}
use Rattle.recovery.proofs.check_rows.Goals.{After-check_row}
use Rattle.recovery.proofs.check_rows.Goals as goal

pub loop-y-init : goal.loop-y-init
loop-y-init c = let s = c.args in each_none (row_refused s.work.now s.from s.e s.gap s.c)

-- what refuses row y
found : (c : After-check_row) → let s = c.args in code_of c.check_row.result ≡ row_refused s.work.now s.from s.e s.gap s.c c.loop-y.y
found c =
    let s = c.args in
    let l = s.work.now in
    let y = c.loop-y.y in
    let stands = c.requires.1 y c.loop-y-test.true in
    let place : s.from + c.detail_at.result * s.c ≡ s.from + detail_at s.e s.gap y * s.c = search rules in
    let long : s.from + c.detail_at.result * s.c + s.c - (s.from + c.detail_at.result * s.c) ≡ s.c = omega arith in
    c.check_row.ensures
    ∙ (λ i. each (λ x. too_large (at (part l (place i) (long i)) x)) (length (part l (place i) (long i))))
    ∙ ap (each (λ x. too_large (at (part l (s.from + detail_at s.e s.gap y * s.c) s.c) x))) (length_part l _ s.c stands)

pub returns-in_err-check_row : goal.returns-in_err-check_row
returns-in_err-check_row c =
    let d = (goal.at.returns-in_err-check_row c).After-check_row in
    each-refused _ c.loop-y.y c.loop-y.invariant _ (found d) _ _ _ (search rules) c.in_err-check_row.was c.from_residual.ensures.1

pub loop-y-preserved : goal.loop-y-preserved
loop-y-preserved c =
    let d = (goal.at.loop-y-preserved c).After-check_row in
    each-passed _ c.loop-y.y c.loop-y.invariant _ (found d) _ c.in_ok-check_row.was
