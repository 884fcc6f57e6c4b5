-- `records::finish_record` meets its contract. Assumes nothing.
use Rattle.std.proofs.Common.{refl}
use Rattle.records.specs.Finished.{finished_by}
use Rattle.records.proofs.finish_record.Goals as goal

pub returns-in-Sums : goal.returns-in-Sums
unfolding finished_by
returns-in-Sums c = rw c.in-Sums.is c.integrate_row.ensures

pub returns-then-is_end : goal.returns-then-is_end
unfolding finished_by
returns-then-is_end c = rw (c.in-Edges.is, ← c.is_end.ensures, c.if-is_end.true) c.edge_rows.ensures

pub returns-else-is_end : goal.returns-else-is_end
unfolding finished_by
returns-else-is_end c = rw (c.in-Edges.is, ← c.is_end.ensures, c.if-is_end.false) refl

pub returns-in-Nothing : goal.returns-in-Nothing
unfolding finished_by
returns-in-Nothing c = rw c.in-Nothing.is refl
