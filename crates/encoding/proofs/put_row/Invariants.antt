-- `put_row` meets its contract: the bits taken, with those that are left, are the row's. Assumes nothing.
use Rattle.std.proofs.Common.{◌≡◌, ◌-◌, ◌≤◌}
use Rattle.format.specs.Writing.{group_width}
use Rattle.encoding.specs.Numbers.{line}
use Rattle.encoding.proofs.Progress.{Progress}
use Rattle.encoding.proofs.put_row.Given as goal

abbrev pub invariant-loop-j : goal.invariant-loop-j
invariant-loop-j g l =
    (l.j ≤ l.g) × (l.w ≡ group_width (line l.row.numbers.now) l.j) × Progress g.S.Sink.Takes g.S.Sink.CanTake (line l.row.numbers.now) l.g l.initial.s l.s l.j

abbrev pub decreases-loop-j : goal.decreases-loop-j
decreases-loop-j g l = l.g - l.j
