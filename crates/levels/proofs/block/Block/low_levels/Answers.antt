-- `levels::block::Block::low_levels` meets its contract. Assumes nothing.
use Rattle.std.proofs.Common.{ℕ, subst}
use Rattle.format.specs.Sizes.{l1, l2}
use Rattle.levels.specs.Placed.{out_in}
use Rattle.levels.specs.Steps.{Makes}
use Rattle.levels.proofs.Blocks.{lowered}
use Rattle.levels.proofs.block.Block.low_levels.Goals as goal

pub returns : goal.returns
returns c = λ v i r.
    let s = c.args in
    let k = s.self in
    let z = k.z in
    let a = c.into_ring in
    let b = c.into_ring-2 in
    let one = subst (λ (n : ℕ). Makes z k.at l1 (out_in z.w z.slots k.at l1) 0 n s.work.now a.new.work) c.steps.ensures (rw c.unit-u.ensures at a.ensures) in
    let two = subst (λ (n : ℕ). Makes z k.at l2 (out_in z.w z.slots k.at l2) 0 n a.new.work b.new.work) c.steps-2.ensures (rw c.unit-u.ensures at b.ensures) in
    lowered z k.at k.fits v i c.requires.0 s.work.now a.new.work b.new.work r one two
