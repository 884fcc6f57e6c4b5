-- `undoing::Level::next_low` meets its contract. Assumes nothing.
use Rattle.undoing.proofs.StageLaws.{staged-next-low}
use Rattle.undoing.proofs.Level.next_low.Goals as goal

pub returns-then-y-gt0 : goal.returns-then-y-gt0
returns-then-y-gt0 c l ready staged =
    staged-next-low c.args.self l ready c.args.y c.args.work.now _ c.requires.1 c.if-y-gt0.true staged c.undo_low.ensures
