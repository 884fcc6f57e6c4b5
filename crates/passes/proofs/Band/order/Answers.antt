-- `passes::Band::order` meets its contract. Assumes nothing.
use Rattle.std.proofs.Common.{arith}
use Rattle.passes.proofs.PlaceLaws.{part-below}
use Rattle.passes.proofs.Band.order.Goals as goal

pub overflow_add-result-else-self-eq1 : goal.overflow_add-result-else-self-eq1
overflow_add-result-else-self-eq1 c =
    let s = c.args in
    let b = s.self in
    rw c.quotient-q.ensures (omega (arith, part-below b.rows b.components s.c s.r c.requires.1.rows, c.requires.0))
