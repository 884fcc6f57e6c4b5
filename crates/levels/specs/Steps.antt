-- The steps of a level: pairs of rows, and the row after them where there is one high row more than low ones. What a range of steps reads and makes.
use Rattle.std.specs.Prelude.{◌≡◌, Bool, false, cond, List, ℕ, ◌+◌, ◌-◌, ◌*◌, ◌≤◌, ◌<◌, min, ltb, ℤ}
use Rattle.wrap32.specs.Arithmetic.{wrapping}
use Rattle.lists.specs.Lists.{part, put_at, Gone}
use Rattle.format.specs.Lifting.{Plane}
use Rattle.format.specs.Sizes.{Level, l1, l2, l3, Group, detail, final, multiplier, columns}
use Rattle.format.specs.Synthesis.{level}
use Rattle.format.specs.Table.{height, lead, highs, band_rows}
use Rattle.format.specs.Table as table
use Rattle.lifting.specs.Lift.{lift_row}
use Rattle.passes.specs.declared.Level as code
use Rattle.passes.specs.declared.Plan.{Plan}
use Rattle.passes.specs.Plan.{line}
use Rattle.passes.specs.Level.{lo_h, hi_h, pair_at, pairs_in}
use Rattle.levels.specs.Placed.{ll_in, source_in}

-- ---- as the code has it
-- `count` steps
abbrev pub steps_in : Bool → code.Level → ℕ → ℕ → ℕ → List ℤ → ℕ → ℕ → List ℤ
steps_in leads g m out pairs work from count =
    cond (ltb g.h (from + count))
    (put_at (pairs_in leads g m out pairs work from (g.h - from)) (pair_at out pairs g.c g.h) (lift_row g.c (lo_h g m work g.h) (hi_h g m work g.h)))
    (pairs_in leads g m out pairs work from count)

-- ---- in document 01's words
-- whether the high band leads
abbrev pub leads : Bool → Level → Bool
leads g l1 = g
leads g l2 = g
leads g l3 = false

-- the steps of a level, the rows of its outcome, and those of them that k steps have made
abbrev pub steps : Bool → ℕ → Level → ℕ
steps g n l = highs g l (height g n l)

abbrev pub rows_after : Bool → ℕ → Level → ℕ
rows_after g n l = height g n l + highs g l (height g n l)

abbrev pub rows_by : Bool → ℕ → Level → ℕ → ℕ
rows_by g n l k = min (2 * k) (rows_after g n l)

-- the group whose columns, and rows to a record, a level's outcome has
abbrev pub next : Level → Group
next l1 = detail l2
next l2 = detail l3
next l3 = final

-- row y of the outcome
abbrev pub out_row : Bool → ℕ → ℕ → Level → Plane → (table.Band → Plane) → ℕ → List ℤ
out_row g w n l ll b y = line (columns w (next l)) (level wrapping (lead g l) (height g n l) (highs g l (height g n l)) (columns w (detail l)) ll b) y

-- the rows that `count` steps from step `from` on are made of stand in a block: of ll from row `first` on, and of the bands with E where it goes in
pub record Near (g : Bool) (w n s at : ℕ) (l : Level) (first from count : ℕ) (ll : Plane) (b : table.Band → Plane) (work : List ℤ) : Type 0 where
  pub lls : (y : ℕ) → first ≤ y → y ≤ from + count → y < height g n l → part work (ll_in g w s at l y) (columns w (detail l)) ≡ line (columns w (detail l)) ll y
  pub bands : (k : table.Band) (y : ℕ) → from ≤ y + 1 → y ≤ from + count → y < band_rows (height g n l) (highs g l (height g n l)) k → part work (source_in g w n s at l k y) (columns w (detail l)) ≡ line (columns w (detail l)) (b k) y

-- `count` steps of a level from step `from` on were made into the ring at `out`
abbrev pub Makes : Plan → ℕ → Level → ℕ → ℕ → ℕ → List ℤ → List ℤ → Type 0
Makes z at l out from count work after =
    (ll : Plane) (b : table.Band → Plane)
    → Near z.guarded z.w z.n z.slots at l (from - 1) from count ll b work
    → Gone out (columns z.w (next l)) (z.slots * multiplier (next l)) (out_row z.guarded z.w z.n l ll b) from (rows_by z.guarded z.n l (from + count)) work after
