-- `strip::Frame::table_tiles` meets its contract. Assumes nothing.
use Rattle.strip.proofs.Table.{Gathered}
use Rattle.strip.proofs.Frame.table_tiles.Given as goal

abbrev pub invariant-loop-i : goal.invariant-loop-i
invariant-loop-i l = Gathered l.self.strip.now l.self.width l.self.height l.tiles l.i
