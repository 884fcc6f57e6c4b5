-- `undoing::Level::step_row` meets its contract: any row is clear while another, or it itself, is written. Assumes nothing.
use Rattle.std.proofs.Common.{◌*◌}
use Rattle.undoing.proofs.RowLaws.{row-clear}
use Rattle.undoing.proofs.Level.step_row.Goals as goal

pub undo_row-requires-clause-clear : goal.undo_row-requires-clause-clear
undo_row-requires-clause-clear g c =
    let s = c.args.self in
    let b = c.requires.0.behind in
    let clear = row-clear s.to.start s.to.step (2 * s.c) in
    (rw (c.row.ensures, c.row-2.ensures) (clear c.args.i c.args.r b), rw (c.row.ensures, c.row-3.ensures) (clear c.args.j c.args.r b))
