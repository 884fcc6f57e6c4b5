-- `undoing::Level::last_high` meets its contract. Assumes nothing.
use Rattle.std.proofs.Common.{ap}
use Rattle.undoing.specs.Down.{lead_of}
use Rattle.undoing.proofs.StageLaws.{staged-last, staged-one-more}
use Rattle.undoing.proofs.Level.last_high.Goals as goal

pub returns-else-self : goal.returns-else-self
returns-else-self c l ready staged =
    staged-last c.args.self l ready c.args.work.now _ (ap lead_of c.if-self.false) staged c.undo_high-else-self.ensures

pub returns-then-self-2 : goal.returns-then-self-2
returns-then-self-2 c l ready staged =
    staged-one-more c.args.self l ready c.args.work.now _ _ (ap lead_of c.if-self.true) c.if-self-2.true staged c.split_at.ensures c.undo_high.ensures
