-- `packets::check` meets its contract. Assumes nothing.
use Rattle.std.proofs.Common.{◌∙◌, sym, arith}
use Rattle.refusals.proofs.Laws.{exits, exits_first}
use Rattle.packets.proofs.LengthLaws.{lengths_refused, needed_long, needed_valid, needed_rest}
use Rattle.packets.proofs.check.Goals as goal

pub returns-in_err-need-clause-refusal : goal.returns-in_err-need-clause-refusal
returns-in_err-need-clause-refusal c = exits _ _ c.from_residual.ensures.1 ∙ lengths_refused _ _ c.in_err-need.ensures _ _ _ _

pub returns-in_err-check_lent-clause-refusal : goal.returns-in_err-check_lent-clause-refusal
returns-in_err-check_lent-clause-refusal c =
    exits_first _ _ c.from_residual-in_err-check_lent.ensures.1 _ _ c.in_err-check_lent.ensures ∙ sym (needed_rest _ c.in_ok-need.need c.in_ok-need.ensures _ _ _ _)

pub new-requires : goal.new-requires
new-requires c = omega (arith, needed_long _ c.in_ok-need.need c.in_ok-need.ensures)

pub check_rest-requires : goal.check_rest-requires
check_rest-requires c = rw c.new.ensures (needed_valid _ c.in_ok-need.need c.in_ok-need.ensures)

pub returns-in_err-checked-clause-refusal : goal.returns-in_err-checked-clause-refusal
returns-in_err-checked-clause-refusal c =
    rw (needed_rest _ c.in_ok-need.need c.in_ok-need.ensures _ _ _ _, ← c.in_ok-check_lent.ensures)
    (exits _ _ c.from_residual-in_err-checked.ensures.1 ∙ (rw c.new.ensures at c.in_err-checked.ensures.refusal))

pub returns-clause-refusal : goal.returns-clause-refusal
returns-clause-refusal c = rw (needed_rest _ c.in_ok-need.need c.in_ok-need.ensures _ _ _ _, ← c.in_ok-check_lent.ensures) (rw c.new.ensures at c.in_ok-checked.ensures.refusal)
