-- `packets::directory::Block::lengths` meets its contract. Assumes nothing.
use Rattle.std.proofs.Common.{sym, arith}
use Rattle.format.specs.Packets.{entry_length}
use Rattle.format.proofs.TurnLaws.{sum-none, sum-on}
use Rattle.packets.proofs.directory.Block.lengths.Goals as goal

pub loop-i-init : goal.loop-i-init
loop-i-init c = (sym (sum-none (entry_length c.args.self.now.stream.now c.args.self.now.at)), omega arith)

pub loop-i-preserved : goal.loop-i-preserved
loop-i-preserved c = (
  simp (
    c.loop-i.invariant.0,
    c.length-total.ensures.0,
    sum-on (entry_length c.args.self.now.stream.now c.args.self.now.at) c.loop-i.i,
  ),
  omega arith,
)
