-- `undoing::Level::undo_low` meets its contract. Assumes nothing.
use Rattle.std.proofs.Common.{◌-◌, ◌*◌, refl, arith}
use Rattle.undoing.specs.Down.{rows_in}
use Rattle.undoing.proofs.DownLaws.{up-led, up-leading}
use Rattle.undoing.proofs.Level.undo_low.Goals as goal

pub returns-then-self : goal.returns-then-self
returns-then-self c =
    let g = c.args.self in
    rw c.if-self.true (rw (up-leading g.m (2 * g.c) (rows_in g c.args.work.now) c.args.y _ c.min.ensures) at c.step_row.ensures)

pub returns-then-y-eq0 : goal.returns-then-y-eq0
returns-then-y-eq0 c =
    let g = c.args.self in
    rw c.if-self.false (rw (up-led g.m (2 * g.c) (rows_in g c.args.work.now) c.args.y 1 1 (omega arith) (omega arith)) at c.step_row-then-y-eq0.ensures)

pub returns-else-y-eq0 : goal.returns-else-y-eq0
returns-else-y-eq0 c =
    let g = c.args.self in
    rw c.if-self.false (rw (up-led g.m (2 * g.c) (rows_in g c.args.work.now) c.args.y (2 * c.args.y - 1) _ (omega arith) refl) at c.step_row-else-y-eq0.ensures)
