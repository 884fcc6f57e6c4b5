-- The averages of the first y rows stand.
use Rattle.std.proofs.Common.{◌≡◌, List, ℕ, ℤ, ◌+◌, ◌-◌, ◌*◌}
use Rattle.lists.specs.Lists.{part, laid}
use Rattle.undoing.specs.Undo.{averages_row}
use Rattle.undoing.proofs.averages.Given as goal

-- row y of them
abbrev pub averages_of : List ℤ → List ℤ → ℕ → ℕ → ℕ → List ℤ
averages_of work plane from c y = averages_row c (part plane (y * (2 * c)) (2 * c)) (part work (from + (y - 1) * c) c) (part work (from + y * c) c)

abbrev pub invariant-loop-y : goal.invariant-loop-y
invariant-loop-y l = l.work ≡ laid (λ y. l.to + y * l.c) (averages_of l.initial.work l.plane l.from l.c) l.initial.work l.y
