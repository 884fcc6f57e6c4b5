-- `returning::Edges::undo` meets its contract. Assumes nothing.
use Rattle.std.proofs.Common.{pos, lt-ltb, le-ltb}
use Rattle.lists.proofs.Tab.{tab-of}
use Rattle.returning.proofs.Edges.undo.Goals as goal

pub returns-then-y-self : goal.returns-then-y-self
returns-then-y-self c =
    let s = c.args in
    rw (le-ltb s.y s.self.first c.if-self-y.true, lt-ltb s.y s.self.last c.if-y-self.true) (tab-of (pos 0) s.row.now, c.check_row.ensures)
