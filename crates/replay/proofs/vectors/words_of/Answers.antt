-- `vectors::words_of` meets its contract: the first i are the head's words. Assumes nothing.
use Rattle.std.proofs.Common.{◌*◌, arith}
use Rattle.lists.proofs.Tab.{fill_start, fill_step, fill_done}
use Rattle.format.specs.Bits.{little32}
use Rattle.replay.proofs.vectors.words_of.Goals as goal

pub loop-i-init : goal.loop-i-init
loop-i-init c = fill_start _ _

pub loop-i-preserved : goal.loop-i-preserved
loop-i-preserved c =
    let at = c.loop-i in
    fill_step _ at.w-items at.i (λ k. little32 c.args.head.now (4 * k)) _ at.invariant (omega arith) c.word.ensures

pub returns : goal.returns
returns c = fill_done _ _ c.loop-i.i 11 (λ k. little32 c.args.head.now (4 * k)) c.loop-i.invariant (omega arith) (omega arith)
