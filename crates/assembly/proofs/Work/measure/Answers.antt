-- `measure` meets its contract. Assumes nothing.
use Rattle.std.proofs.Common.{sym, ap, ◌∙◌}
use Rattle.refusals.specs.Number.{number_of, code_of}
use Rattle.refusals.proofs.Laws.{exits, exits_first}
use Rattle.assembly.proofs.Fronts.{narrow-units}
use Rattle.assembly.proofs.Streams.{refusal_is, refusal-by}
use Rattle.assembly.proofs.Work.measure.Goals as goal

pub returns-in_err-records-clause-refusal : goal.returns-in_err-records-clause-refusal
returns-in_err-records-clause-refusal c v h =
    let s = c.args.self in
    let u = c.units-records.ensures in
    exits_first _ _ c.from_residual.ensures.1 _ _ (sym (ap code_of c.in_err-records.was) ∙ u.refusal) ∙ refusal_is s.w s.h v s.numbers.now h _ (u.sizes v h).units

pub returns-in_err-check-clause-refusal : goal.returns-in_err-check-clause-refusal
returns-in_err-check-clause-refusal c v h =
    let s = c.args.self in
    let x = c.in_err-check.field-0.0 in
    let u = c.units-records.ensures in
    exits _ x c.from_residual-in_err-check.ensures.1
    ∙ refusal-by s.w s.h v s.numbers.now h _ (u.sizes v h).units 0 (number_of x) (sym (ap code_of c.in_ok-records.was) ∙ u.refusal) c.in_err-check.ensures

pub invariant_of-result : goal.invariant_of-result
invariant_of-result c = record { narrow = narrow-units _ (sym c.in_ok-check.ensures) }

pub returns-clause-refusal : goal.returns-clause-refusal
returns-clause-refusal c v h =
    let s = c.args.self in
    let u = c.units-records.ensures in
    refusal-by s.w s.h v s.numbers.now h _ (u.sizes v h).units 0 0 (sym (ap code_of c.in_ok-records.was) ∙ u.refusal) c.in_ok-check.ensures

pub returns-clause-sizes : goal.returns-clause-sizes
returns-clause-sizes c v h = let e = c.units-records.ensures.sizes v h in record { long = c.length.ensures.0 ∙ e.long; units = e.units }
