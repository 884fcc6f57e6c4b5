-- A record finished: its numbers as running sums, or some rows of the first and the last record with E.
use Rattle.std.specs.Prelude.{ℕ, ◌+◌, ◌*◌, Bool, false, cond, List, ltb, ℤ, length}
use Rattle.lists.specs.Lists.{part, put_at}
use Rattle.format.specs.Table.{ends}
use Rattle.lifting.specs.Lift.{edge_row, sum_row}
use Rattle.records.specs.declared.EdgeRows.{EdgeRows}
use Rattle.records.specs.declared.Finish.{Finish}
use Rattle.records.specs.declared.Finish.TheVariants.{Sums, Edges, Nothing}

-- where the rows that get E end
abbrev pub edges_end : Finish → ℕ
edges_end Sums = 0
edges_end (Edges e) = e.first + e.count
edges_end Nothing = 0

-- row j of record i gets E
unfoldable pub edged : Finish → ℕ → ℕ → Bool
edged Sums i j = false
edged (Edges e) i j = cond (ends i e.last) (cond (ltb j e.first) false (ltb j (e.first + e.count))) false
edged Nothing i j = false

-- a record's rows that get E, with E: rows are of `cols` numbers
abbrev pub edged_rows : EdgeRows → ℕ → List ℤ → List ℤ
edged_rows e cols l = put_at l (e.first * cols) (edge_row (e.count * cols) e.odd (part l (e.first * cols) (e.count * cols)))

-- record i, of numbers l, finished
unfoldable pub finished_by : Finish → ℕ → ℕ → List ℤ → List ℤ
finished_by Sums cols i l = sum_row (length l) l
finished_by (Edges e) cols i l = cond (ends i e.last) (edged_rows e cols l) l
finished_by Nothing cols i l = l
