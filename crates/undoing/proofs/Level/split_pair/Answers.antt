-- `undoing::Level::split_pair` meets its contract. Assumes nothing.
use Rattle.undoing.specs.Down.{lead_of}
use Rattle.undoing.proofs.DownLaws.{pair-in}
use Rattle.undoing.proofs.StageLaws.{staged-pair}
use Rattle.undoing.proofs.Level.split_pair.Goals as goal

pub returns : goal.returns
returns c l a b ha hb ready staged =
    let g = c.args.self in
    let room = pair-in (lead_of g.leads) g.h g.m c.args.y ready.placed.shape c.requires.1 in
    staged-pair g l ready c.args.y a b c.args.work.now _ _ room ha hb staged c.split_at.ensures c.split_at-2.ensures
