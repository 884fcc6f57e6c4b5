-- `ring::emit_two` meets its contract. Assumes nothing.
use Rattle.std.proofs.Common.{◌*◌, arith}
use Rattle.lists.proofs.Part.{put_next}
use Rattle.lists.proofs.Tab.{length-tab}
use Rattle.ring.proofs.emit_two.Goals as goal

pub returns : goal.returns
returns c = put_next c.args.out.now _ _ _ _ c.args.o (2 * c.args.c) (length-tab _ _) c.emit.ensures c.emit-2.ensures (omega arith)
