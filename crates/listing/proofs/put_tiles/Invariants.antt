-- `listing::put_tiles` meets its contract. Assumes nothing.
use Rattle.std.proofs.Common.{◌+◌, ◌*◌, ◌≤◌}
use Rattle.lists.specs.Lists.{rows}
use Rattle.listing.specs.Listing.{line_at}
use Rattle.listing.specs.Text.{Appends}
use Rattle.listing.proofs.put_tiles.Given as goal

abbrev pub invariant-loop-tile : goal.invariant-loop-tile
invariant-loop-tile l = Appends l.initial.text l.text (rows l.tile-index (line_at l.tiles)) × (l.text.len ≤ l.initial.text.len + l.tile-index * 126)
