-- `undoing::Level::undo_high` meets its contract. Assumes nothing.
use Rattle.std.proofs.Common.{◌-◌, ◌*◌, arith}
use Rattle.undoing.specs.Down.{rows_in}
use Rattle.undoing.proofs.DownLaws.{down-led, down-first, down-last, down-inner}
use Rattle.undoing.proofs.Level.undo_high.Goals as goal

pub returns-then-y-eq0 : goal.returns-then-y-eq0
returns-then-y-eq0 c =
    let g = c.args.self in
    rw c.if-self.true (rw (down-first g.h (2 * g.c) (rows_in g c.args.work.now) c.args.y c.if-y-eq0.true) at c.step_row.ensures)

pub returns-then-y-self : goal.returns-then-y-self
returns-then-y-self c =
    let g = c.args.self in
    rw c.if-self.true (rw (down-last g.h (2 * g.c) (rows_in g c.args.work.now) c.args.y (2 * c.args.y - 1) (omega arith) c.if-y-eq0.false c.if-y-self.true) at c.step_row-then-y-self.ensures)

pub returns-else-y-self : goal.returns-else-y-self
returns-else-y-self c =
    let g = c.args.self in
    rw c.if-self.true (rw (down-inner g.h (2 * g.c) (rows_in g c.args.work.now) c.args.y (2 * c.args.y - 1) (omega arith) c.if-y-eq0.false c.if-y-self.false) at c.step_row-else-y-self.ensures)

pub returns-else-self : goal.returns-else-self
returns-else-self c =
    let g = c.args.self in
    rw c.if-self.false (rw (down-led g.h (2 * g.c) (rows_in g c.args.work.now) c.args.y _ c.min.ensures) at c.step_row-else-self.ensures)
