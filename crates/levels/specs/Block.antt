-- What stands in a block of the work slice: of each packet of an index the records, finished, and behind them rows of ll of levels 2 and 3.
use Rattle.std.specs.Prelude.{◌≡◌, Bool, cond, List, ℕ, suc, ◌+◌, ◌*◌, ◌/◌, ◌%◌, ℤ}
use Rattle.std.specs.Int.{w16}
use Rattle.wrap32.specs.Cut.{cut}
use Rattle.wrap32.specs.Arithmetic.{wrapping}
use Rattle.wrap32.specs.Edge.{edge_detail}
use Rattle.lists.specs.Lists.{Apart, part, rows, Rung}
use Rattle.format.specs.Coefficients.{Coefs}
use Rattle.format.specs.Lifting.{Plane}
use Rattle.format.specs.Sizes.{Colour, Level, l1, l2, l3, Group, base, detail, final, multiplier, components, columns, plane_rows}
use Rattle.format.specs.Synthesis.{sum_of, ll2, ll3, outcome, flat}
use Rattle.format.specs.Table.{height, mode, as_edge}
use Rattle.passes.specs.declared.Plan.{Plan}
use Rattle.passes.specs.Plan.{line, unit_of, ll_units, final_units}
use Rattle.levels.specs.Placed.{packet_in, out_in}

-- a group's coefficients as they stand, finished: group 0's rows as running sums, those of groups 2 and 3 with E where it goes in
unfoldable pub stood : Bool → ℕ → Coefs → Group → Colour → ℕ → Plane
stood g n v base i c r x = sum_of wrapping (λ k. cut w16 (v base i c r k)) (suc x)
stood g n v (detail l) i c r x =
    cond (as_edge g n l (r / multiplier (detail l)) c (r % multiplier (detail l))) (edge_detail wrapping (mode l i) (v (detail l) i c r x)) (v (detail l) i c r x)
stood g n v final i c r x = v final i c r x

-- the numbers of a record of a group, and record t as a list: row after row, component after component
abbrev pub record_size : ℕ → Group → ℕ
record_size w m = components m * multiplier m * columns w m

abbrev pub record_row : ℕ → Group → (ℕ → Plane) → ℕ → ℕ → List ℤ
record_row w m p t j = line (columns w m) (p (j / multiplier m)) (t * multiplier m + j % multiplier m)

abbrev pub record_lines : ℕ → Group → (ℕ → Plane) → ℕ → List ℤ
record_lines w m p t = rows (components m * multiplier m) (record_row w m p t)

-- of coefficients v, records lo to hi of a group of an index stand in a ring from `at` on
abbrev pub Stood : Plan → Coefs → Group → Colour → ℕ → ℕ → ℕ → List ℤ → Type 0
Stood z v m i at lo hi work = Rung at (record_size z.w m) z.slots (record_lines z.w m (stood z.guarded z.n v m i)) lo hi work

-- where a group's ring starts in a block from `at` on
abbrev pub group_at : Plan → ℕ → Group → ℕ
group_at z at m = at + packet_in z.slots (z.w / 16) m

-- groups 0 to 3 of an index, in a block from `at` on
pub record Records (z : Plan) (v : Coefs) (i : Colour) (at lo hi : ℕ) (work : List ℤ) : Type 0 where
  pub bases : Stood z v base i (group_at z at base) lo hi work
  pub details : (l : Level) → Stood z v (detail l) i (group_at z at (detail l)) lo hi work

-- rows lo to hi of ll of level 2, and of level 3
abbrev pub Seconds : Plan → Coefs → Colour → ℕ → ℕ → ℕ → List ℤ → Type 0
Seconds z v i at lo hi work = Rung (out_in z.w z.slots at l1) (z.w / 8) (z.slots * 2) (line (z.w / 8) (ll2 wrapping z.guarded z.n z.w i v)) lo hi work

abbrev pub Thirds : Plan → Coefs → Colour → ℕ → ℕ → ℕ → List ℤ → Type 0
Thirds z v i at lo hi work = Rung (out_in z.w z.slots at l2) (z.w / 4) (z.slots * 4) (line (z.w / 4) (ll3 wrapping z.guarded z.n z.w i v)) lo hi work

-- levels 1 and 2 of a block are made: ll of level 3 stands whole, and beside the rings of both ll's nothing has changed
pub record Lowered (z : Plan) (v : Coefs) (i : Colour) (at : ℕ) (work after : List ℤ) : Type 0 where
  pub thirds : Thirds z v i at 0 (height z.guarded z.n l3) after
  pub beside : (s m : ℕ) → Apart s m (out_in z.w z.slots at l1) (ll_units * unit_of z) → part after s m ≡ part work s m

-- the outcome of the three levels as a plane
abbrev pub outcome_plane : Plan → Coefs → Colour → List ℤ
outcome_plane z v i = flat (plane_rows z.guarded z.n) (z.w / 2) (outcome wrapping z.guarded z.n z.w i v)

-- rows lo to hi of the outcome of the three levels, in a ring from `at` on
abbrev pub Outcomes : Plan → Coefs → Colour → ℕ → ℕ → ℕ → List ℤ → Type 0
Outcomes z v i at lo hi work = Rung at (z.w / 2) (z.slots * 8) (line (z.w / 2) (outcome wrapping z.guarded z.n z.w i v)) lo hi work

-- all three levels of a block are made, the last into a ring from `out` on; beside it and the rings of both ll's nothing has changed
pub record Averaged (z : Plan) (v : Coefs) (i : Colour) (at out : ℕ) (work after : List ℤ) : Type 0 where
  pub outcomes : Outcomes z v i out 0 (plane_rows z.guarded z.n) after
  pub beside : (s m : ℕ) → Apart s m (out_in z.w z.slots at l1) (ll_units * unit_of z) → Apart s m out (final_units * unit_of z) → part after s m ≡ part work s m
