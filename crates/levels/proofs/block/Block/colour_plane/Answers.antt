-- `levels::block::Block::colour_plane` meets its contract. Assumes nothing.
use Rattle.levels.proofs.Blocks.{plane-whole}
use Rattle.levels.proofs.block.Block.colour_plane.Goals as goal

pub returns : goal.returns
returns c =
    λ v i r.
    let b = c.args.self in
    let low = c.low_levels.ensures v i r in
    (plane-whole b.z b.at b.fits v i c.requires.0 _ _ r low _ (rw c.steps.ensures at c.third_rows.ensures), low)
