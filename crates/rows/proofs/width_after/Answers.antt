-- `width_after` meets its contract. Assumes nothing.
use Rattle.std.proofs.Common.{eq-eqb, ne_eqb}
use Rattle.format.specs.Coefficients.{width_after}
use Rattle.rows.proofs.width_after.Goals as goal

pub returns-then-left-eq0 : goal.returns-then-left-eq0
unfolding width_after
returns-then-left-eq0 c = record { value = simp (eq-eqb _ _ c.if-left-eq0.true); ready = c.requires }

pub returns : goal.returns
unfolding width_after
returns c = record { value = simp (ne_eqb _ _ c.if-left-eq0.false, c.unary.ensures.value); ready = c.unary.ensures.ready_below.ready }
