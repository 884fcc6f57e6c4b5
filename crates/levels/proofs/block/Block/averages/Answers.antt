-- `levels::block::Block::averages` meets its contract. Assumes nothing.
use Rattle.std.proofs.Common.{ℕ, subst}
use Rattle.format.specs.Sizes.{l3}
use Rattle.levels.specs.Steps.{Makes}
use Rattle.levels.proofs.Blocks.{outcomes-whole, outcomes-beside}
use Rattle.levels.proofs.block.Block.averages.Goals as goal

pub returns : goal.returns
returns c =
    λ v i r.
    let s = c.args in
    let p = c.requires in
    let b = s.self in
    let z = b.z in
    let low = c.low_levels.ensures v i r in
    let three = subst (λ (k : ℕ). Makes z b.at l3 s.out 0 k c.low_levels.new.work c.into_ring.new.work) c.steps.ensures c.into_ring.ensures in
    record {
      outcomes = outcomes-whole z b.at b.fits v i p.0 _ _ r low s.out _ three;
      beside = outcomes-beside z b.at b.fits v i p.0 _ _ r low s.out _ three;
    }
