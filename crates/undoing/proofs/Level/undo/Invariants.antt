-- y pairs are split, and undone are the highs whose lows stood and all but the last of the lows.
use Rattle.std.proofs.Common.{◌*◌, ◌-◌}
use Rattle.undoing.specs.Down.{lead_of, highs_done, Staged}
use Rattle.undoing.proofs.Level.undo.Given as goal

abbrev pub invariant-loop-y : goal.invariant-loop-y
invariant-loop-y l = Staged l.self l.initial.work (2 * l.y) (highs_done (lead_of l.self.leads) l.y) (l.y - 1) l.work
