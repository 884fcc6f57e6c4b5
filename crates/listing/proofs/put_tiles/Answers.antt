-- `listing::put_tiles` meets its contract: tile by tile. Assumes nothing.
use Rattle.std.proofs.Common.{arith}
use Rattle.listing.proofs.Pieces.{appends-none, appends-both, no_rows, next_row}
use Rattle.listing.proofs.put_tiles.Goals as goal

pub loop-tile-init : goal.loop-tile-init
loop-tile-init c = (rw no_rows (appends-none _), omega arith)

pub loop-tile-preserved : goal.loop-tile-preserved
loop-tile-preserved c = (rw next_row (appends-both _ _ _ _ _ (omega arith) c.loop-tile.invariant.0 c.put_tile.ensures.value), omega arith)
