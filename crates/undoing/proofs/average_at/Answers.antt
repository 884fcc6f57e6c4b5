-- `undoing::average_at` meets its contract. Assumes nothing.
use Rattle.std.proofs.Common.{rules, w32, SFits, to_z-of_z}
use Rattle.undoing.proofs.UndoLaws.{quarter-more}
use Rattle.undoing.proofs.average_at.Goals as goal

pub average_back-requires : goal.average_back-requires
average_back-requires c =
    let f : SFits w32 c.quarter_of-g.result = search rules in
    simp to_z-of_z (rw c.quarter_of-g.ensures (quarter-more _ _ _ _))
