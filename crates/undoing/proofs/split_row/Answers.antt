-- `undoing::split_row` meets its contract. Assumes nothing.
use Rattle.undoing.proofs.UndoLaws.{split-both}
use Rattle.undoing.proofs.split_row.Goals as goal

pub returns : goal.returns
returns c =
    let s = c.args in
    split-both s.work.now _ _ s.from s.to s.c c.requires.1 c.requires.2 c.split_highs.ensures c.split_lows.ensures
