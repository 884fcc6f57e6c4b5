-- Rows that stand one after the other in the work slice, and a level undone in them, first along the rows, then down the columns: document 01,
-- 'Recovery'.
use Rattle.std.specs.Prelude.{◌≡◌, Bool, true, false, cond, List, ℕ, ◌+◌, ◌-◌, ◌*◌, ◌≤◌, ◌<◌, ltb, ℤ, length}
use Rattle.wrap32.specs.Cut.{add_w}
use Rattle.wrap32.specs.Arithmetic.{wrapping}
use Rattle.lists.specs.Lists.{Apart, part, tab}
use Rattle.format.specs.Lifting.{Plane, Lead, low_leads, high_leads, low_places, high_places, highs_of, lows_of, taken, Shape}
use Rattle.format.specs.Table.{hl, lh, hh}
use Rattle.format.specs.Recovery.{ll_of, band_of, d_of, read_plane}
use Rattle.lifting.specs.Lift.{at}
use Rattle.undoing.specs.Undo.{split_row}
use Rattle.undoing.specs.declared.Level.{Level}
use Rattle.undoing.specs.declared.Spaced.{Spaced}

-- `count` rows of n, the first at `start` and each `step` behind the one before it, lie within `size` places
abbrev pub Within : ℕ → ℕ → ℕ → ℕ → ℕ → Type 0
Within start step n count size = (r : ℕ) → r < count → start + r * step + n ≤ size

-- `count` rows from `from` on, each s behind the one before it, have no place in common with as many from `to` on, each t behind
abbrev pub RowsApart : ℕ → ℕ → ℕ → ℕ → ℕ → ℕ → Type 0
RowsApart from s to t n count = (r q : ℕ) → r < count → q < count → Apart (from + r * s) n (to + q * t) n

-- which band has the first row
abbrev pub lead_of : Bool → Lead
lead_of true = high_leads
lead_of false = low_leads

-- the row where low y stands, and high y
abbrev pub low_at : Lead → ℕ → ℕ
low_at low_leads y = 2 * y
low_at high_leads y = 2 * y + 1

abbrev pub high_at : Lead → ℕ → ℕ
high_at low_leads y = 2 * y + 1
high_at high_leads y = 2 * y

-- how many highs are undone once y pairs of rows are split
abbrev pub highs_done : Lead → ℕ → ℕ
highs_done low_leads y = y - 1
highs_done high_leads y = y

-- where row r stands
abbrev pub place : Spaced → ℕ → ℕ
place s r = s.start + r * s.step

-- the rows that a level goes to stand within `size` places, and no two of them meet
pub record Placed (g : Level) (size : ℕ) : Type 0 where
  pub within : Within g.to.start g.to.step (2 * g.c) (g.h + g.m) size
  pub behind : 2 * g.c ≤ g.to.step
  pub shape : Shape (lead_of g.leads) g.h g.m
  pub some : 1 ≤ g.h
  pub few : g.h + g.m ≤ size

module _ (g : Level) where
  -- the place of row r, of low y and of high y
  abbrev pub row_place : ℕ → ℕ
  row_place r = place g.to r

  abbrev pub low_place : ℕ → ℕ
  low_place y = row_place (low_at (lead_of g.leads) y)

  abbrev pub high_place : ℕ → ℕ
  high_place y = row_place (high_at (lead_of g.leads) y)

  -- the rows as they stand
  abbrev pub rows_in : List ℤ → ℕ → List ℤ
  rows_in l r = part l (row_place r) (2 * g.c)

  -- row r of those that the level comes from, split
  abbrev pub split_at : List ℤ → ℕ → List ℤ
  split_at l r = split_row g.c (part l (place g.from r) (2 * g.c))

-- high y of n columns of the rows f, undone; and low y, where the highs are undone
unfoldable pub highs_down : Lead → ℕ → ℕ → (ℕ → List ℤ) → ℕ → List ℤ
highs_down d h n f y = tab n (λ x. highs_of d h (λ r. at (f r) x) y)

unfoldable pub lows_down : Lead → ℕ → ℕ → (ℕ → List ℤ) → ℕ → List ℤ
lows_down d m n f y = tab n (λ x. add_w (low_places d (λ r. at (f r) x) y) (taken wrapping d m (high_places d (λ r. at (f r) x)) y))

-- low y of n columns of the rows f, undone with the highs
unfoldable pub lows_back : Lead → ℕ → ℕ → ℕ → (ℕ → List ℤ) → ℕ → List ℤ
lows_back d h m n f y = tab n (λ x. lows_of d h m (λ r. at (f r) x) y)

-- the rows that a level comes from lie within `size` places too, and apart from those that it goes to
pub record Ready (g : Level) (size : ℕ) : Type 0 where
  pub placed : Placed g size
  pub within : Within g.from.start g.from.step (2 * g.c) (g.h + g.m) size
  pub apart : RowsApart g.from.start g.from.step g.to.start g.to.step (2 * g.c) (g.h + g.m)

-- a level on its way, from l: the first k rows are split, the first a highs of them and b lows undone; beside the rows that it goes to nothing has
-- changed
pub record Staged (g : Level) (l : List ℤ) (k a b : ℕ) (w : List ℤ) : Type 0 where
  pub highs : (q : ℕ) → q < a → rows_in g w (high_at (lead_of g.leads) q) ≡ highs_down (lead_of g.leads) g.h (2 * g.c) (split_at g l) q
  pub lows : (q : ℕ) → q < b → rows_in g w (low_at (lead_of g.leads) q) ≡ lows_back (lead_of g.leads) g.h g.m (2 * g.c) (split_at g l) q
  pub split-highs : (q : ℕ) → a ≤ q → high_at (lead_of g.leads) q < k → rows_in g w (high_at (lead_of g.leads) q) ≡ split_at g l (high_at (lead_of g.leads) q)
  pub split-lows : (q : ℕ) → b ≤ q → low_at (lead_of g.leads) q < k → rows_in g w (low_at (lead_of g.leads) q) ≡ split_at g l (low_at (lead_of g.leads) q)
  pub beside : (e n : ℕ) → ((r : ℕ) → r < g.h + g.m → Apart e n (row_place g r) (2 * g.c)) → part w e n ≡ part l e n
  pub long : length w ≡ length l

-- the four bands of `out` stand in the rows from `to` on, each t behind the one before it: ll and hl, c of each, in the rows of the lows, lh and hh
-- in those of the highs
pub record Undone (d : Lead) (h m c to t : ℕ) (out : Plane) (after : List ℤ) : Type 0 where
  pub lls : (y : ℕ) → y < h → part after (to + low_at d y * t) c ≡ tab c (ll_of d h m c out y)
  pub hls : (y : ℕ) → y < h → part after (to + low_at d y * t + c) c ≡ tab c (band_of d h m c out hl y)
  pub lhs : (y : ℕ) → y < m → part after (to + high_at d y * t) c ≡ tab c (band_of d h m c out lh y)
  pub hhs : (y : ℕ) → y < m → part after (to + high_at d y * t + c) c ≡ tab c (band_of d h m c out hh y)

-- a level undone, from the rows from `from` on, each s behind the one before it: whatever plane stands there, its bands stand after it; and
-- beside the rows from `to` on nothing has changed
pub record LevelUndone (d : Lead) (h m c from s to t : ℕ) (before after : List ℤ) : Type 0 where
  pub bands : (out : Plane) → ((r : ℕ) → r < h + m → part before (from + r * s) (2 * c) ≡ tab (2 * c) (out r)) → Undone d h m c to t out after
  pub beside : (lo hi a n : ℕ) → lo ≤ to → to + (h + m - 1) * t + 2 * c ≤ hi → Apart a n lo (hi - lo) → part after a n ≡ part before a n
  pub long : length after ≡ length before

-- ---- green: where row y of the details goes, with a gap of rows behind the first e
abbrev pub detail_at : ℕ → ℕ → ℕ → ℕ
detail_at e gap y = cond (ltb y e) y (y + gap)

-- the details of a plane of `count` rows of 2 c stand in l, row after row from `from` on
abbrev pub DetailsStand : ℕ → ℕ → List ℤ → List ℤ → ℕ → Type 0
DetailsStand count c plane l from = (y : ℕ) → y < count → part l (from + y * c) c ≡ tab c (d_of count (read_plane (2 * c) plane) y)
