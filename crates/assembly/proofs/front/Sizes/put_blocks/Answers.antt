-- `put_blocks` meets its contract. Assumes nothing.
use Rattle.std.proofs.Common.{arith}
use Rattle.codes.proofs.Laws.{appends-none, appends-both}
use Rattle.encoding.proofs.Records.{rows_none, rows_next}
use Rattle.assembly.specs.Front.{block_of}
use Rattle.assembly.proofs.Fronts.{length-blocks}
use Rattle.assembly.proofs.front.Sizes.put_blocks.Goals as goal

pub loop-g-init : goal.loop-g-init
loop-g-init c = rw (rows_none (block_of c.args.self.now.units.each)) (appends-none _ _ c.requires)

pub put_block-requires : goal.put_block-requires
put_block-requires c =
    let i = c.loop-g.invariant in
    (omega arith, record { few = i.few; small = i.small; room = omega (arith, length-blocks c.args.self.now.units.each c.loop-g.g) })

pub loop-g-preserved : goal.loop-g-preserved
loop-g-preserved c =
    rw (← rows_next (block_of c.args.self.now.units.each) c.loop-g.g) (appends-both _ _ _ _ _ c.loop-g.invariant c.put_block.ensures)
