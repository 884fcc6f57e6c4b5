-- `ring::low_pair` meets its contract. Assumes nothing.
use Rattle.std.proofs.Common.{arith}
use Rattle.lists.proofs.Part.{put_next}
use Rattle.lists.proofs.Tab.{length-tab}
use Rattle.ring.proofs.low_pair.Goals as goal

pub returns : goal.returns
returns c = put_next c.args.ring.now _ _ _ _ c.args.to c.args.c (length-tab _ _) c.low_half.ensures c.low_half-2.ensures (omega arith)
