-- `wrap32::edge_detail` meets its contract. Assumes nothing.
use Rattle.std.proofs.Common.{to_z-of_z, ◌∙◌}
use Rattle.wrap32.proofs.Laws.{odd-bit, read_back, add_w-fits, sign_fits, signum-is, edge-signed, edge-plain}
use Rattle.wrap32.proofs.edge_detail.Goals as goal

pub returns-then-x-odd : goal.returns-then-x-odd
returns-then-x-odd c =
    let f = c.ranges.x in
    let x = c.args.x in
    let two = simp to_z-of_z at c.wrapping_add-two.ensures in
    let sign = (simp to_z-of_z at c.signum.ensures.value) ∙ signum-is x in
    read_back
    (rw (read_back two (add_w-fits x x), read_back sign (sign_fits x)) at c.wrapping_add.ensures)
    (add_w-fits _ _)
    ∙ edge-signed c.args.odd x (simp (to_z-of_z, odd-bit) at c.if-x-odd.true)

pub returns-else-x-odd : goal.returns-else-x-odd
returns-else-x-odd c =
    let f = c.ranges.x in
    read_back (simp to_z-of_z at c.wrapping_add-two.ensures) (add_w-fits _ _)
    ∙ edge-plain c.args.odd c.args.x (simp (to_z-of_z, odd-bit) at c.if-x-odd.false)
