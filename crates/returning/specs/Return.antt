-- What the rows of recovered bands become at their places in the packets, and what refuses them: document 01, 'Recovery'; document 02, refusal 25.
use Rattle.std.specs.Prelude.{◌≡◌, Bool, true, false, not, cond, Option, Some, None, List, ℕ, ◌+◌, ◌*◌, ◌/◌, ◌^◌, ◌≤◌, ◌<◌, ltb, ℤ, length}
use Rattle.std.specs.Int.{w16}
use Rattle.wrap32.specs.Cut.{cut, sub_w}
use Rattle.wrap32.specs.Arithmetic.{wrapping}
use Rattle.wrap32.specs.Edge.{eq_z, edge_detail, edge_back}
use Rattle.lists.specs.Lists.{Apart, tab, part, laid}
use Rattle.lifting.specs.Lift.{at}
use Rattle.format.specs.Lifting.{Plane}
use Rattle.format.specs.Sizes.{Level, l1, Group, base, detail, columns}
use Rattle.format.specs.Table.{start, height, highs, Source, S, E, hl, lh, hh, source, band_rows}
use Rattle.format.specs.Table as table
use Rattle.format.specs.Refusals.{◌▷◌, each}
use Rattle.format.specs.Recovery.{back, seek, before, differences}
use Rattle.format.specs.Writing.{too_far, band_refusal, places}
use Rattle.format.specs.Numbers.{packet_rows, packet_numbers}
use Rattle.passes.specs.declared.Band as code-band
use Rattle.passes.specs.declared.Level as code
use Rattle.passes.specs.declared.Plan.{Plan}
use Rattle.passes.specs.Plan.{line, unit_of, ll2_units, Fits}
use Rattle.passes.specs.Level.{packet_row, band_at, Whole}
use Rattle.levels.specs.Block.{group_at}
use Rattle.returning.specs.declared.Edges.{Edges}
use Rattle.returning.specs.declared.Undone.{Undone}

-- ---- numbers
-- the number that E takes to e, if there is one
abbrev pub value_back : Bool → ℤ → Option ℤ
value_back odd e = cond (eq_z (edge_detail wrapping odd (edge_back odd e)) e) (Some (edge_back odd e)) None

-- ---- rows
-- the cut steps along a row l, and what refuses them
abbrev pub step_of : List ℤ → ℕ → ℤ
step_of l x = sub_w (at l x) (before (at l) x)

abbrev pub steps_of : ℕ → List ℤ → List ℤ
steps_of c l = tab c (λ x. cut w16 (step_of l x))

abbrev pub steps_refusal : ℕ → List ℤ → ℕ
steps_refusal c l = each (λ x. too_far (step_of l x)) c

-- whether row y of a band is an edge row: below `first`, or from `last` on
abbrev pub edge_row_at : Edges → ℕ → Bool
edge_row_at e y = cond (ltb y e.first) true (not (ltb y e.last))

-- some source that has E applied, and one that has not
abbrev pub some_source : Bool → Source
some_source true = E 0 0
some_source false = S 0 0

-- a row l as it goes back, and what refuses it
abbrev pub row_back : Bool → Source → ℕ → List ℤ → List ℤ
row_back odd s c l = tab c (λ x. back odd s (at l x))

abbrev pub row_refusal : Bool → Source → ℕ → List ℤ → ℕ
row_refusal odd s c l = each (λ x. band_refusal odd s (at l x)) c

-- ---- a band
-- `count` rows of c numbers, the first at `from` and then one every t numbers, can go to the places p in n numbers: none stands where one goes to
pub record Movable (p : ℕ → ℕ) (c from t count n : ℕ) : Type 0 where
  pub target : (y : ℕ) → y < count → p y + c ≤ n
  pub stands : (y : ℕ) → y < count → from + y * t + c ≤ n
  pub apart : (y k : ℕ) → y < count → k < count → Apart (from + y * t) c (p k) c

-- the same of a band, whose places can be computed
pub record Returnable (b : code-band.Band) (c from t count n : ℕ) : Type 0 where
  pub cols : 1 ≤ c
  pub whole : Whole b
  pub counted : (y : ℕ) → y < count → packet_row b y < 2 ^ 64
  pub movable : Movable (band_at b c) c from t count n

-- a band's rows laid at their places, and what refuses them
abbrev pub band_laid : code-band.Band → ℕ → ℕ → ℕ → ℕ → Edges → List ℤ → List ℤ
band_laid b c from t count e work =
    laid (band_at b c) (λ y. row_back e.odd (some_source (edge_row_at e y)) c (part work (from + y * t) c)) work count

abbrev pub band_refused : ℕ → ℕ → ℕ → ℕ → Edges → List ℤ → ℕ
band_refused c from t count e work = each (λ y. row_refusal e.odd (some_source (edge_row_at e y)) c (part work (from + y * t) c)) count

-- rows of steps, laid one behind the other from `to` on, and what refuses them
abbrev pub steps_laid : ℕ → ℕ → ℕ → ℕ → ℕ → List ℤ → List ℤ
steps_laid c from t to count work = laid (λ y. to + y * c) (λ y. steps_of c (part work (from + y * t) c)) work count

abbrev pub steps_refused : ℕ → ℕ → ℕ → ℕ → List ℤ → ℕ
steps_refused c from t count work = each (λ y. steps_refusal c (part work (from + y * t) c)) count

-- ---- the three bands of a level of the code with m high rows: hh first, then lh, then hl
-- lh and hl have no edge rows
abbrev pub no_edges : ℕ → Edges → Edges
no_edges count e = record { first = 0; last = count; odd = e.odd }

-- after hh, after lh, after hl; what refuses the three
abbrev pub hh_laid : code.Level → ℕ → Undone → Edges → List ℤ → List ℤ
hh_laid g m u e work = band_laid g.hh g.c (u.high + g.c) u.stride m e work

abbrev pub lh_laid : code.Level → ℕ → Undone → Edges → List ℤ → List ℤ
lh_laid g m u e work = band_laid g.lh g.c u.high u.stride m (no_edges m e) (hh_laid g m u e work)

abbrev pub hl_laid : code.Level → ℕ → Undone → Edges → List ℤ → List ℤ
hl_laid g m u e work = band_laid g.hl g.c (u.low + g.c) u.stride g.h (no_edges g.h e) (lh_laid g m u e work)

abbrev pub level_refused : code.Level → ℕ → Undone → Edges → List ℤ → ℕ
level_refused g m u e work =
    band_refused g.c (u.high + g.c) u.stride m e work
    ▷ band_refused g.c u.high u.stride m (no_edges m e) (hh_laid g m u e work)
    ▷ band_refused g.c (u.low + g.c) u.stride g.h (no_edges g.h e) (lh_laid g m u e work)

-- the three can go
pub record AllReturnable (g : code.Level) (m : ℕ) (u : Undone) (n : ℕ) : Type 0 where
  pub high : u.high + g.c < 2 ^ 64
  pub low : u.low + g.c < 2 ^ 64
  pub hh : Returnable g.hh g.c (u.high + g.c) u.stride m n
  pub lh : Returnable g.lh g.c u.high u.stride m n
  pub hl : Returnable g.hl g.c (u.low + g.c) u.stride g.h n

-- ---- in document 01's words
-- a plan whose slots hold all records, and a block from `place` on within n numbers
pub record Held (z : Plan) (place n : ℕ) : Type 0 where
  pub fits : Fits z place
  pub all : z.slots ≡ z.n + 1
  pub room : place + ll2_units * unit_of z ≤ n

-- the numbers of a packet of n + 1 records; v are those that stand there in the block from `place` on
abbrev pub packet_size : Plan → Group → ℕ
packet_size z g = packet_rows g (z.n + 1) * columns z.w g

abbrev pub Numbers : Plan → ℕ → Group → (ℕ → Plane) → List ℤ → Type 0
Numbers z place g v work = part work (group_at z place g) (packet_size z g) ≡ packet_numbers z.w g (z.n + 1) v

-- k numbers from s on stand within n numbers, apart from that packet
abbrev pub Clean : Plan → ℕ → Group → ℕ → ℕ → ℕ → Type 0
Clean z place g n s k = (s + k ≤ n) × Apart s k (group_at z place g) (packet_size z g)

-- the rows of a band in the table
abbrev pub rows_of : Plan → Level → table.Band → ℕ
rows_of z l k = band_rows (height z.guarded z.n l) (highs z.guarded l (height z.guarded z.n l)) k

-- ---- a level undone: rows of 2 c numbers, c of lo and c of hi. They are clean; where row y of a band stands among them: hl behind the lows'
-- lo, lh as the highs' lo, hh behind that; and the rows of the bands b stand there
pub record Beside (z : Plan) (place : ℕ) (l : Level) (u : Undone) (n : ℕ) : Type 0 where
  pub lows : (y : ℕ) → y < rows_of z l hl → Clean z place (detail l) n (u.low + y * u.stride) (2 * columns z.w (detail l))
  pub highs : (y : ℕ) → y < rows_of z l hh → Clean z place (detail l) n (u.high + y * u.stride) (2 * columns z.w (detail l))

abbrev pub undone_at : ℕ → Undone → table.Band → ℕ
undone_at c u hl = u.low + c
undone_at c u lh = u.high
undone_at c u hh = u.high + c

abbrev pub Given : Plan → Level → Undone → (table.Band → Plane) → List ℤ → Type 0
Given z l u b work =
    (k : table.Band) (y : ℕ) → y < rows_of z l k
    → part work (undone_at (columns z.w (detail l)) u k + y * u.stride) (columns z.w (detail l)) ≡ line (columns z.w (detail l)) (b k) y

-- the coefficients that a level's bands give back, over `rest`; what refuses a band, and the level
abbrev pub bands_back : Bool → ℕ → Level → Bool → (table.Band → Plane) → (ℕ → Plane) → ℕ → Plane
bands_back g n l odd b rest c r x =
    seek odd (source g l (height g n l) hl) (b hl) c r x (height g n l)
    (seek odd (source g l (height g n l) lh) (b lh) c r x (highs g l (height g n l))
    (seek odd (source g l (height g n l) hh) (b hh) c r x (highs g l (height g n l)) (rest c r x)))

abbrev pub band_fault : Bool → ℕ → ℕ → Level → Bool → (table.Band → Plane) → table.Band → ℕ
band_fault g n w l odd b k =
    places (band_rows (height g n l) (highs g l (height g n l)) k) (columns w (detail l)) (λ y x. band_refusal odd (source g l (height g n l) k y) (b k y x))

abbrev pub bands_fault : Bool → ℕ → ℕ → Level → Bool → (table.Band → Plane) → ℕ
bands_fault g n w l odd b = band_fault g n w l odd b hh ▷ band_fault g n w l odd b lh ▷ band_fault g n w l odd b hl

-- a level's bands went back to their packet, and r is what refuses them; beside the packet nothing has changed
pub record BandsReturned (z : Plan) (place : ℕ) (l : Level) (odd : Bool) (u : Undone) (work after : List ℤ) (r : ℕ) : Type 0 where
  pub numbers : (b : table.Band → Plane) (rest : ℕ → Plane) → Given z l u b work
      → Numbers z place (detail l) rest work → Numbers z place (detail l) (bands_back z.guarded z.n l odd b rest) after
  pub refusal : (b : table.Band → Plane) → Given z l u b work → r ≡ bands_fault z.guarded z.n z.w l odd b
  pub beside : (s k : ℕ) → Apart s k (group_at z place (detail l)) (packet_size z (detail l)) → part after s k ≡ part work s k
  pub same : length after ≡ length work

-- ---- level 1's ll: its rows are clean, the first at `from` and then one every t numbers; and the rows of ll stand there
abbrev pub BaseBeside : Plan → ℕ → ℕ → ℕ → ℕ → Type 0
BaseBeside z place from t n = (y : ℕ) → y < height z.guarded z.n l1 → Clean z place base n (from + y * t) (z.w / 16)

abbrev pub BaseGiven : Plan → ℕ → ℕ → Plane → List ℤ → Type 0
BaseGiven z from t ll work = (y : ℕ) → y < height z.guarded z.n l1 → part work (from + y * t) (z.w / 16) ≡ line (z.w / 16) ll y

-- the coefficients that it gives back, over `rest`; what refuses them
abbrev pub base_back : Bool → ℕ → Plane → (ℕ → Plane) → ℕ → Plane
base_back g n ll rest c r x = seek false (λ y. S 0 (y + start g)) (differences ll) c r x (height g n l1) (rest c r x)

abbrev pub base_fault : Bool → ℕ → ℕ → Plane → ℕ
base_fault g n w ll = places (height g n l1) (w / 16) (λ y x. too_far (sub_w (ll y x) (before (ll y) x)))

-- it went back to group 0's packet as steps, and r is what refuses them; beside the packet nothing has changed
pub record BaseReturned (z : Plan) (place from t : ℕ) (work after : List ℤ) (r : ℕ) : Type 0 where
  pub numbers : (ll : Plane) (rest : ℕ → Plane) → BaseGiven z from t ll work
      → Numbers z place base rest work → Numbers z place base (base_back z.guarded z.n ll rest) after
  pub refusal : (ll : Plane) → BaseGiven z from t ll work → r ≡ base_fault z.guarded z.n z.w ll
  pub beside : (s k : ℕ) → Apart s k (group_at z place base) (packet_size z base) → part after s k ≡ part work s k
  pub same : length after ≡ length work
