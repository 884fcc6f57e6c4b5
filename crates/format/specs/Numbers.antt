-- A packet's coefficients as one list of rows: record after record, in a record component after component, m rows each.
use Rattle.std.specs.Prelude.{List, ℕ, ◌+◌, ◌*◌, ◌/◌, ◌%◌, ℤ}
use Rattle.format.specs.Lifting.{Plane}
use Rattle.format.specs.Sizes.{Group, multiplier, components, columns}
use Rattle.format.specs.Synthesis.{flat}

-- component and row of its row q; where row r of component c is
abbrev pub component_at : Group → ℕ → ℕ
component_at g q = q / multiplier g % components g

abbrev pub row_at : Group → ℕ → ℕ
row_at g q = q / (multiplier g * components g) * multiplier g + q % multiplier g

abbrev pub row_of : Group → ℕ → ℕ → ℕ
row_of g c r = (r / multiplier g * components g + c) * multiplier g + r % multiplier g

-- the rows of its components v, in that order
abbrev pub in_turn : Group → (ℕ → Plane) → Plane
in_turn g v q = v (component_at g q) (row_at g q)

-- the rows of k records, and their numbers
abbrev pub packet_rows : Group → ℕ → ℕ
packet_rows g k = k * (components g * multiplier g)

unfoldable pub packet_numbers : ℕ → Group → ℕ → (ℕ → Plane) → List ℤ
packet_numbers w g k v = flat (packet_rows g k) (columns w g) (in_turn g v)
