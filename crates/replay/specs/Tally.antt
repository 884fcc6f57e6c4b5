-- Counts of cases.
use Rattle.std.specs.Prelude.{List, [], ◌∷◌, ℕ, ◌+◌}
use Rattle.replay.specs.declared.Count.{Count}

-- the sum of all counts
unfoldable pub total : List ℕ → ℕ
total [] = 0
total (n ∷ l) = n + total l

-- the counts of a tally, one after the other: for each kind how many cases came out as they should, and how many did not
abbrev pub counts_of : List Count → List ℕ
counts_of [] = []
counts_of (c ∷ l) = c.right ∷ c.wrong ∷ counts_of l
