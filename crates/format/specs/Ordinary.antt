-- Ordinary frames: document 02, job 12, 'No wrap in ordinary frames'. The theorems are in proofs/Ordinary.
use Rattle.std.specs.Prelude.{◌≡◌, Bool, true, List, ℕ, ◌+◌, ◌/◌, ◌≤◌, ◌<◌, ℤ, nat_abs}
use Rattle.wrap32.specs.Arithmetic.{Arithmetic, wrapping, whole}
use Rattle.format.specs.Sizes.{Colour, green, red, blue, index, Level, l1, l2, l3, Group, base, detail, final, number, present, stripes, guarded, columns, plane_rows, plane_columns}
use Rattle.format.specs.Packets.{packet_of, kind, blocks, selector}
use Rattle.format.specs.Coefficients.{Coefs}
use Rattle.format.specs.Lifting.{PlaneOf, Signal, Plane, Lead, low_leads, high_leads, join, SameOn}
use Rattle.format.specs.Table.{height, lead, highs, Band, hl, lh, hh, band_rows, chosen}
use Rattle.format.specs.Synthesis.{sums, down, bands, ll_at, outcome, odd_green, both_greens, plane_of, flat}
use Rattle.format.specs.T800.{filter}

-- no selector above 4, in any record of the 13 packets
unfoldable pub OrdinarySelectors : List ℕ → Type 0
OrdinarySelectors s =
    (m : Group) (i : Colour) (t c : ℕ) → present m i ≡ true → t < blocks (packet_of s (number m) (index i)) → c < kind (packet_of s (number m) (index i))
    → selector (packet_of s (number m) (index i)) t c ≤ 4

-- ---- the three levels by T.800's filter alone, on whole numbers

-- where the low band leads a signal starts at an even place, where the high band leads at an odd one
abbrev pub first_place : Lead → ℕ
first_place low_leads = 0
first_place high_leads = 1

-- the filter on n lows and m highs; on the columns of two planes; on their rows
abbrev pub filtered : Lead → ℕ → ℕ → Signal → Signal → Signal
filtered d n m low high = filter (first_place d) (n + m) (join d low high)

abbrev pub filtered_down : Lead → ℕ → ℕ → Plane → Plane → Plane
filtered_down d h m low high y x = filtered d h m (λ j. low j x) (λ j. high j x) y

abbrev pub filtered_across : ℕ → Plane → Plane → Plane
filtered_across w low high y = filtered low_leads w w (low y) (high y)

unfoldable pub filtered_level : Lead → ℕ → ℕ → ℕ → Plane → (Band → Plane) → Plane
filtered_level d h m w ll b = filtered_across w (filtered_down d h m ll (b lh)) (filtered_down d h m (b hl) (b hh))

-- from the running sums and the bands of a tile, level after level
module _ (g : Bool) (n w : ℕ) (i : Colour) (v : Coefs) where
  abbrev pub filtered_step : Level → Plane → Plane
  filtered_step l ll = filtered_level (lead g l) (height g n l) (highs g l (height g n l)) (columns w (detail l)) ll (bands whole g l (height g n l) i (v (detail l) i))

  abbrev pub filtered_at : Level → Plane
  filtered_at l1 = sums whole g (v base i 0)
  filtered_at l2 = filtered_step l1 (sums whole g (v base i 0))
  filtered_at l3 = filtered_step l2 (filtered_step l1 (sums whole g (v base i 0)))

  unfoldable pub filtered_out : Plane
  filtered_out = filtered_step l3 (filtered_at l3)

-- the planes
abbrev pub filtered_plane : Bool → ℕ → ℕ → Coefs → Colour → Plane
filtered_plane g n w v green = both_greens whole (plane_rows g n) (w / 2) (filtered_out g n w green v) (λ y. v final green 0 (chosen g y))
filtered_plane g n w v red = filtered_out g n w red v
filtered_plane g n w v blue = filtered_out g n w blue v

unfoldable pub filtered_planes : ℕ → ℕ → Coefs → Colour → List ℤ
filtered_planes w H v i = flat (plane_rows (guarded H) (stripes H)) (plane_columns w i) (filtered_plane (guarded H) (stripes H) w v i)

-- ---- lo and hi of level l
module _ {N : Type 0} (A : Arithmetic N) (g : Bool) (n w : ℕ) (i : Colour) (v : Coefs) (l : Level) where
  abbrev pub lo_at : PlaneOf N
  lo_at = down A (lead g l) (height g n l) (highs g l (height g n l)) (ll_at A g n w i v l) (bands A g l (height g n l) i (v (detail l) i) lh)

  abbrev pub hi_at : PlaneOf N
  hi_at = down A (lead g l) (height g n l) (highs g l (height g n l)) (bands A g l (height g n l) i (v (detail l) i) hl) (bands A g l (height g n l) i (v (detail l) i) hh)

-- at level l of document 01's synthesis ll, lo and hi are what the filter alone gives
pub record Filtered (g : Bool) (n w : ℕ) (i : Colour) (v : Coefs) (l : Level) : Type 0 where
  pub ll : SameOn (height g n l) (columns w (detail l)) (ll_at wrapping g n w i v l) (filtered_at g n w i v l)
  pub lo : SameOn (height g n l + highs g l (height g n l)) (columns w (detail l)) (lo_at wrapping g n w i v l)
      (filtered_down (lead g l) (height g n l) (highs g l (height g n l)) (filtered_at g n w i v l) (bands whole g l (height g n l) i (v (detail l) i) lh))
  pub hi : SameOn (height g n l + highs g l (height g n l)) (columns w (detail l)) (hi_at wrapping g n w i v l)
      (filtered_down (lead g l) (height g n l) (highs g l (height g n l)) (bands whole g l (height g n l) i (v (detail l) i) hl) (bands whole g l (height g n l) i (v (detail l) i) hh))

-- ---- the largest magnitudes; docs/BOUNDS.md has the arithmetic. Coefficients lie below `coef_most`
abbrev pub coef_most : ℕ
coef_most = 8388600

-- the rows of bands, with E in hh of levels 2 and 3 alone
abbrev pub band_most : Level → Band → ℕ
band_most l hl = 8388600
band_most l lh = 8388600
band_most l1 hh = 8388600
band_most l2 hh = 16777202
band_most l3 hh = 16777202

-- each level's ll, lo and hi
abbrev pub ll_most : Level → ℕ
ll_most l1 = 134184961
ll_most l2 = 178225115
ll_most l3 = 241139623

abbrev pub lo_most : Level → ℕ
lo_most l1 = 146767862
lo_most l2 = 190808016
lo_most l3 = 253722524

abbrev pub hi_most : Level → ℕ
hi_most l1 = 20971501
hi_most l2 = 33554404
hi_most l3 = 33554404

-- no number of h rows of w exceeds m in magnitude
abbrev pub AtMost : ℕ → ℕ → ℕ → Plane → Type 0
AtMost h w m p = (y x : ℕ) → y < h → x < w → nat_abs (p y x) ≤ m

-- of document 01's synthesis
pub record Bounded (g : Bool) (n w : ℕ) (v : Coefs) : Type 0 where
  pub coef : (m : Group) (i : Colour) (c r x : ℕ) → present m i ≡ true → nat_abs (v m i c r x) < coef_most
  pub band : (l : Level) (i : Colour) (b : Band) → AtMost (band_rows (height g n l) (highs g l (height g n l)) b) (columns w (detail l)) (band_most l b) (bands wrapping g l (height g n l) i (v (detail l) i) b)
  pub ll : (l : Level) (i : Colour) → AtMost (height g n l) (columns w (detail l)) (ll_most l) (ll_at wrapping g n w i v l)
  pub lo : (l : Level) (i : Colour) → AtMost (height g n l + highs g l (height g n l)) (columns w (detail l)) (lo_most l) (lo_at wrapping g n w i v l)
  pub hi : (l : Level) (i : Colour) → AtMost (height g n l + highs g l (height g n l)) (columns w (detail l)) (hi_most l) (hi_at wrapping g n w i v l)
  pub out : (i : Colour) → AtMost (plane_rows g n) (w / 2) 304054131 (outcome wrapping g n w i v)
  pub odd : AtMost (plane_rows g n) (w / 2) 308248432 (odd_green wrapping (w / 2) (outcome wrapping g n w green v) (λ y. v final green 0 (chosen g y)))
  pub full : AtMost (plane_rows g n) w 316637032 (plane_of wrapping g n w v green)
