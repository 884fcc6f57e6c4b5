-- The details of the first y rows stand.
use Rattle.std.proofs.Common.{◌≡◌, ◌+◌, ◌*◌}
use Rattle.lists.specs.Lists.{tab, laid}
use Rattle.format.specs.Recovery.{d_of, read_plane}
use Rattle.undoing.specs.Down.{detail_at}
use Rattle.undoing.proofs.details.Given as goal

abbrev pub invariant-loop-y : goal.invariant-loop-y
invariant-loop-y l =
    l.work ≡ laid (λ y. l.at + detail_at l.e l.gap y * l.c) (λ y. tab l.c (d_of l.count (read_plane (2 * l.c) l.plane) y)) l.initial.work l.y
