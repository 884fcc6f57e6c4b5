-- `check` meets its contract. Assumes nothing.
use Rattle.std.proofs.Common.{ℕ, ◌*◌, ltb, sym, ap, ◌∙◌}
use Rattle.format.specs.Refusals.{on}
use Rattle.format.proofs.TurnLaws.{each_none, each_on}
use Rattle.assembly.specs.Front.{group_of}
use Rattle.refusals.proofs.Laws.{exits_each}
use Rattle.assembly.proofs.front.Units.check.Goals as goal

pub loop-g-init : goal.loop-g-init
loop-g-init c = each_none (λ g. on (ltb 268435440 (16 * group_of c.args.self.now.each g)) 26)

pub loop-g-preserved : goal.loop-g-preserved
loop-g-preserved c =
    each_on (λ g. on (ltb 268435440 (16 * group_of c.args.self.now.each g)) 26) c.loop-g.g c.loop-g.invariant (sym (rw c.group.ensures.0 at c.in_ok-within.ensures))

pub returns-in_err-within : goal.returns-in_err-within
returns-in_err-within c =
    exits_each c.from_residual.result c.in_err-within.field-0.0 c.from_residual.ensures.1 (λ g. on (ltb 268435440 (16 * group_of c.args.self.now.each g)) 26) c.loop-g.g 5 c.loop-g.invariant
    (c.in_err-within.ensures ∙ ap (λ (n : ℕ). on (ltb 268435440 (16 * n)) 26) c.group.ensures.0) c.loop-g-test.true
