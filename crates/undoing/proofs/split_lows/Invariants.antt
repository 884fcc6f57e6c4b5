-- The first x lows stand.
use Rattle.std.proofs.Common.{◌≡◌}
use Rattle.lists.specs.Lists.{put_at, tab}
use Rattle.undoing.proofs.UndoLaws.{low_of}
use Rattle.undoing.proofs.split_lows.Given as goal

abbrev pub invariant-loop-x : goal.invariant-loop-x
invariant-loop-x l = l.work ≡ put_at l.fn.work l.to (tab l.x (low_of l.fn.work l.from l.high l.c))
