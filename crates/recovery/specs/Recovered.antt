-- Levels undone in the work slice, one after the other, and the coefficients that stand in it then: document 01, 'Recovery'.
use Rattle.std.specs.Prelude.{◌≡◌, Bool, true, cond, List, ℕ, ◌+◌, ◌-◌, ◌*◌, ◌/◌, ◌≤◌, ◌<◌, ℤ, pos, length}
use Rattle.lists.specs.Lists.{Apart, part, tab}
use Rattle.lifting.specs.Lift.{at}
use Rattle.format.specs.Coefficients.{zeros}
use Rattle.format.specs.Lifting.{Plane, Lead}
use Rattle.format.specs.Sizes.{Colour, green, index, Level, l1, l2, l3, base, detail, final, columns, plane_rows}
use Rattle.format.specs.Table.{height, lead, highs, hl, lh, hh, mode}
use Rattle.format.specs.Refusals.{each}
use Rattle.format.specs.Recovery.{read_plane, d_of, ll_of, band_of, unstep, unband, summed_back, lifted_back, out_of, picked_back}
use Rattle.format.specs.Writing.{too_large, places, index_refusal}
use Rattle.passes.specs.declared.Plan.{Plan}
use Rattle.passes.specs.Plan.{unit_of, final_units, Fits}
use Rattle.levels.specs.Steps.{leads}
use Rattle.levels.specs.Block.{group_at}
use Rattle.undoing.specs.Down.{low_at, high_at, detail_at}
use Rattle.returning.specs.Return.{Numbers, packet_size, bands_back, bands_fault, base_back, base_fault}
use Rattle.returning.specs.declared.Undone.{Undone}
use Rattle.recovery.specs.declared.Undoing.{Undoing}

-- `count` rows of n numbers, the first at `from` and each `step` behind the one before it, are those of a plane
abbrev pub RowsAt : ℕ → ℕ → ℕ → ℕ → Plane → List ℤ → Type 0
RowsAt from step n count p work = (y : ℕ) → y < count → part work (from + y * step) n ≡ tab n (p y)

-- ---- a level undone into rows from `to` on, each t behind the one before it, and the numbers from a to b cleared: its bands stand where u says,
-- and beside those rows and numbers nothing has changed
pub record Ready (d : Lead) (h m c from s to t a b : ℕ) (before after : List ℤ) (u : Undone) : Type 0 where
  pub lows : u.low ≡ to + low_at d 0 * t
  pub highs : u.high ≡ to + high_at d 0 * t
  pub stride : u.stride ≡ 2 * t
  pub lls : (out : Plane) → RowsAt from s (2 * c) (h + m) out before → RowsAt u.low u.stride c h (ll_of d h m c out) after
  pub hls : (out : Plane) → RowsAt from s (2 * c) (h + m) out before → RowsAt (u.low + c) u.stride c h (band_of d h m c out hl) after
  pub lhs : (out : Plane) → RowsAt from s (2 * c) (h + m) out before → RowsAt u.high u.stride c m (band_of d h m c out lh) after
  pub hhs : (out : Plane) → RowsAt from s (2 * c) (h + m) out before → RowsAt (u.high + c) u.stride c m (band_of d h m c out hh) after
  pub cleared : part after a (b - a) ≡ zeros (b - a)
  pub beside : (lo hi k n : ℕ) → lo ≤ to → to + (h + m - 1) * t + 2 * c ≤ hi → Apart k n lo (hi - lo) → Apart k n a (b - a) → part after k n ≡ part before k n
  pub long : length after ≡ length before

-- ---- the scratch, the last quarter of the work slice; where the rows of each level's ll stand in it, and how far apart: level 3's from the start
-- on, the others behind ll of the level before them, a row later where the high band leads
abbrev pub scratch_at : Plan → ℕ
scratch_at z = 192 * unit_of z

abbrev pub scratch_size : Plan → ℕ
scratch_size z = final_units * unit_of z

abbrev pub ll_place : Plan → Level → ℕ
ll_place z l3 = scratch_at z
ll_place z l2 = scratch_at z + 2 * (z.w / 8) + cond z.guarded z.w 0
ll_place z l1 = scratch_at z + 2 * (z.w / 8) + cond z.guarded z.w 0 + 2 * (z.w / 16) + cond z.guarded (2 * z.w) 0

abbrev pub ll_step : Plan → Level → ℕ
ll_step z l3 = z.w
ll_step z l2 = 2 * z.w
ll_step z l1 = 4 * z.w

-- a plan whose slots hold all records, with a block from `place` on before the scratch, in a work slice of n numbers
pub record Front (z : Plan) (place n : ℕ) : Type 0 where
  pub fits : Fits z place
  pub all : z.slots ≡ z.n + 1
  pub front : place + 64 * unit_of z ≤ scratch_at z
  pub room : scratch_at z + scratch_size z ≤ n

-- level l of a block undone into rows from `to` on, each t behind the one before it, and the places of its packet cleared
abbrev pub LevelReady : Plan → ℕ → Level → ℕ → ℕ → ℕ → ℕ → List ℤ → List ℤ → Undone → Type 0
LevelReady z place l from s to t before after u =
    let h = height z.guarded z.n l in
    let a = group_at z place (detail l) in
    Ready (lead z.guarded l) h (highs z.guarded l h) (columns z.w (detail l)) from s to t a (a + packet_size z (detail l)) before after u

-- the rows of what came out of level l, from `from` on, each s behind the one before it; those of its ll; those of what came out of all three
abbrev pub LevelRows : Plan → Level → ℕ → ℕ → Plane → List ℤ → Type 0
LevelRows z l from s out work =
    RowsAt from s (2 * columns z.w (detail l)) (height z.guarded z.n l + highs z.guarded l (height z.guarded z.n l)) out work

abbrev pub LowRows : Plan → Level → Plane → List ℤ → Type 0
LowRows z l ll work = RowsAt (ll_place z l) (ll_step z l) (columns z.w (detail l)) (height z.guarded z.n l) ll work

abbrev pub IndexRows : Plan → ℕ → Plane → List ℤ → Type 0
IndexRows z from out work = RowsAt from (z.w / 2) (z.w / 2) (plane_rows z.guarded z.n) out work

-- what refuses row y of those that stand in a list, of c numbers each, from `from` on, with a gap of rows behind the first e
abbrev pub row_refused : List ℤ → ℕ → ℕ → ℕ → ℕ → ℕ → ℕ
row_refused work from e gap c y = each (λ x. too_large (at (part work (from + detail_at e gap y * c) c) x)) c

-- no coefficient is back yet
abbrev pub none : ℕ → Plane
none c r x = pos 0

-- ---- how level l of a block is undone: how far apart the rows of what came out of it are, where they stand, and where the rows of the undone level go
abbrev pub step_in : Plan → Level → ℕ
step_in z l3 = z.w / 2
step_in z l2 = ll_step z l3
step_in z l1 = ll_step z l2

abbrev pub From : Plan → Level → ℕ → Type 0
From z l3 from = from + 64 * unit_of z ≤ scratch_at z
From z l2 from = from ≡ ll_place z l3
From z l1 from = from ≡ ll_place z l2

abbrev pub to_in : Plan → Level → ℕ → ℕ
to_in z l3 from = scratch_at z
to_in z l2 from = from + 2 * columns z.w (detail l2)
to_in z l1 from = from + 2 * columns z.w (detail l1)

abbrev pub undoing_of : Plan → ℕ → Level → ℕ → Undoing
undoing_of z place l from = record {
  c = columns z.w (detail l);
  h = height z.guarded z.n l;
  m = highs z.guarded l (height z.guarded z.n l);
  leads = leads z.guarded l;
  t = step_in z l;
  to = to_in z l from;
  a = group_at z place (detail l);
  b = group_at z place (detail l) + packet_size z (detail l);
}

-- ---- level l of a block undone: its ll stands in the scratch, its bands are back in their packet, r is what refuses them; beside packet and scratch nothing has changed
pub record LevelBack (z : Plan) (place : ℕ) (l : Level) (odd : Bool) (from s : ℕ) (before after : List ℤ) (r : ℕ) : Type 0 where
  pub lls : (out : Plane) → LevelRows z l from s out before
      → LowRows z l (unstep z.guarded z.n z.w l out) after
  pub numbers : (out : Plane) → LevelRows z l from s out before
      → Numbers z place (detail l) (bands_back z.guarded z.n l odd (unband z.guarded z.n z.w l out) none) after
  pub refusal : (out : Plane) → LevelRows z l from s out before
      → r ≡ bands_fault z.guarded z.n z.w l odd (unband z.guarded z.n z.w l out)
  pub beside : (k n : ℕ) → Apart k n (group_at z place (detail l)) (packet_size z (detail l)) → Apart k n (scratch_at z) (scratch_size z) → part after k n ≡ part before k n
  pub long : length after ≡ length before

-- level 1's ll back in group 0's packet as steps
pub record StepsBack (z : Plan) (place : ℕ) (before after : List ℤ) (r : ℕ) : Type 0 where
  pub numbers : (ll : Plane) → LowRows z l1 ll before → Numbers z place base (base_back z.guarded z.n ll none) after
  pub refusal : (ll : Plane) → LowRows z l1 ll before → r ≡ base_fault z.guarded z.n z.w ll
  pub beside : (k n : ℕ) → Apart k n (group_at z place base) (packet_size z base) → part after k n ≡ part before k n
  pub long : length after ≡ length before

-- ---- all levels of an index undone, from what came out of them
pub record IndexBack (z : Plan) (place : ℕ) (odd : Bool) (from : ℕ) (before after : List ℤ) (r : ℕ) : Type 0 where
  pub steps : (i : Colour) (out : Plane) → odd ≡ mode l3 i → IndexRows z from out before → Numbers z place base (summed_back z.guarded z.n z.w out) after
  pub details : (i : Colour) (out : Plane) → odd ≡ mode l3 i → IndexRows z from out before → (l : Level) → Numbers z place (detail l) (lifted_back z.guarded z.n z.w l i out) after
  pub refusal : (i : Colour) (out : Plane) → odd ≡ mode l3 i → IndexRows z from out before → r ≡ index_refusal z.guarded z.n z.w i out
  pub beside : (k n : ℕ) → Apart k n place (64 * unit_of z) → Apart k n (scratch_at z) (scratch_size z) → part after k n ≡ part before k n
  pub long : length after ≡ length before

-- the coefficients of an index stand in the block from `place` on, from what came out of its levels; r is what refuses them
pub record Back (z : Plan) (place : ℕ) (i : Colour) (out : Plane) (work : List ℤ) (r : ℕ) : Type 0 where
  pub steps : Numbers z place base (summed_back z.guarded z.n z.w out) work
  pub details : (l : Level) → Numbers z place (detail l) (lifted_back z.guarded z.n z.w l i out) work
  pub refusal : r ≡ index_refusal z.guarded z.n z.w i out

-- red or blue, whose plane went through the block; beside block and scratch nothing has changed
pub record ColourBack (z : Plan) (place : ℕ) (plane before after : List ℤ) (r : ℕ) : Type 0 where
  pub back : (i : Colour) → true ≡ mode l3 i → Back z place i (read_plane (z.w / 2) plane) after r
  pub beside : (k n : ℕ) → Apart k n place (64 * unit_of z) → Apart k n (scratch_at z) (scratch_size z) → part after k n ≡ part before k n
  pub long : length after ≡ length before

-- green's details in group 4's packet, which takes the scratch; what refuses them
pub record DetailsBack (z : Plan) (plane before after : List ℤ) (r : ℕ) : Type 0 where
  pub numbers : (p : Colour → List ℤ) → p green ≡ plane → Numbers z (scratch_at z) final (picked_back z.guarded z.n z.w p green) after
  pub refusal : r ≡ places (plane_rows z.guarded z.n) (z.w / 2) (λ y x. too_large (d_of (plane_rows z.guarded z.n) (read_plane z.w plane) y x))
  pub beside : (k n : ℕ) → Apart k n (scratch_at z) (scratch_size z) → part after k n ≡ part before k n
  pub long : length after ≡ length before

-- ---- a plan whose slots hold all records, for a work slice of n numbers, and planes so long
pub record Room (z : Plan) (n full pale dark : ℕ) : Type 0 where
  pub fits : Fits z (scratch_at z)
  pub all : z.slots ≡ z.n + 1
  pub room : scratch_at z + scratch_size z ≡ n
  pub greens : plane_rows z.guarded z.n * z.w ≤ full
  pub reds : plane_rows z.guarded z.n * (z.w / 2) ≤ pale
  pub blues : plane_rows z.guarded z.n * (z.w / 2) ≤ dark

-- the coefficients of the planes p stand in the work slice: the blocks of green, red and blue, then group 4's packet
pub record Recovered (z : Plan) (p : Colour → List ℤ) (work : List ℤ) : Type 0 where
  pub steps : (i : Colour) → Numbers z (index i * (64 * unit_of z)) base (summed_back z.guarded z.n z.w (out_of z.guarded z.n z.w p i)) work
  pub details : (i : Colour) (l : Level) → Numbers z (index i * (64 * unit_of z)) (detail l) (lifted_back z.guarded z.n z.w l i (out_of z.guarded z.n z.w p i)) work
  pub finals : Numbers z (scratch_at z) final (picked_back z.guarded z.n z.w p green) work
