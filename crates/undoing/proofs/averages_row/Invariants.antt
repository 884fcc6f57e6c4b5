-- The first x averages stand.
use Rattle.std.proofs.Common.{◌≡◌}
use Rattle.lists.specs.Lists.{put_at, tab}
use Rattle.undoing.proofs.UndoLaws.{average_of}
use Rattle.undoing.proofs.averages_row.Given as goal

abbrev pub invariant-loop-x : goal.invariant-loop-x
invariant-loop-x l = l.work ≡ put_at l.initial.work l.to (tab l.x (average_of l.initial.work l.row l.prev l.cur l.c))
