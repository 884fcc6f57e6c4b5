-- `packets::directory::Block::start` meets its contract. Assumes nothing.
use Rattle.std.proofs.Common.{arith}
use Rattle.format.proofs.DirectoryLaws.{group-none, group-on}
use Rattle.packets.proofs.directory.Block.start.Goals as goal

pub loop-i-init : goal.loop-i-init
loop-i-init c = (group-none c.args.self.now.stream.now, omega arith)

pub loop-i-preserved : goal.loop-i-preserved
loop-i-preserved c = (
  simp (
    c.group_size-start.ensures.0,
    c.loop-i.invariant.0,
    group-on c.args.self.now.stream.now c.loop-i.i,
  ),
  omega arith,
)
