-- `width_next` meets its contract. Assumes nothing.
use Rattle.std.proofs.Common.{le-leb}
use borrow.Author.Tests.{lt-leb}
use Rattle.format.specs.Coefficients.{width_next}
use Rattle.rows.proofs.width_next.Goals as goal

pub returns-then-groups-le1 : goal.returns-then-groups-le1
unfolding width_next
returns-then-groups-le1 c = record { value = simp (le-leb _ _ c.if-groups-le1.true); still_ready = c.requires.ready }

pub returns : goal.returns
unfolding width_next
returns c = record {
  value = simp (lt-leb _ _ c.if-groups-le1.false, c.width_update.ensures.value);
  still_ready = c.width_update.ensures.still_ready;
}
