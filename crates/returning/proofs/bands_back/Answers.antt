-- `returning::bands_back` meets its contract. Assumes nothing.
use Rattle.std.proofs.Common.{arith}
use Rattle.levels.specs.Bands.{level_of}
use Rattle.returning.proofs.ReturnLaws.{level-asks, level-gives}
use Rattle.returning.proofs.bands_back.Goals as goal

pub level_back-requires : goal.level_back-requires
level_back-requires c =
    let s = c.args in
    level-asks s.b.z s.b.at (level_of s.s) _ s.u s.work.now c.requires.0 c.level-g.ensures c.requires.1 (omega arith) _ c.steps-m.ensures

pub returns : goal.returns
returns c =
    let s = c.args in
    let edge = rw c.steps-m.ensures at c.of_level-e.ensures.0 in
    rw c.of_level-e.ensures.1 at
    (level-gives s.b.z s.b.at (level_of s.s) _ s.u s.work.now c.requires.0 c.level-g.ensures c.requires.1 _ edge
    _ c.steps-m.ensures _ _ c.level_back.ensures.0 c.level_back.ensures.1)
