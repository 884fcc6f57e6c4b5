-- What a call that no check refuses gives: sizes, lengths, and numbers that can be written. Assumes nothing.
use Rattle.std.proofs.Common.{◌≡◌, refl, sym, ap, subst, List, Bool, true, false, not, ◌&&◌, ◌||◌, true≢false, ℕ, zero, suc, ◌*◌, ◌/◌, ◌%◌, ◌^◌, ◌≤◌, ◌<◌, arith, ℤ, pos, negsuc, nat_abs, eqb, ltb, ltb-false, eqb-true, w16, SFits}
use Rattle.std.proofs.lemmas.Bool.{eqb-false, not-false}
use Rattle.wrap32.specs.Cut.{cut}
use Rattle.wrap32.specs.Edge.{eq_z, edge_detail}
use Rattle.wrap32.specs.Arithmetic.{wrapping}
use Rattle.wrap32.proofs.Laws.{of-cond, cut_fits}
use Rattle.format.specs.Lifting.{Plane}
use Rattle.format.specs.Sizes.{Colour, green, red, blue, Level, l1, l2, l3, Group, base, detail, final, stripes, guarded, columns, plane_rows, numbered, indexed}
use Rattle.format.specs.Table.{height, highs, Source, S, E, Band, hl, lh, hh, source, band_rows, mode, chosen, from_component, from_row}
use Rattle.format.specs.Refusals.{on, each, large_refusal, short_refusal}
use Rattle.format.specs.Coefficients.{Coefs}
use Rattle.format.specs.Recovery.{read_plane, d_of, back, seek, differences, unstep, given, unband, summed_back, lifted_back, out_of, picked_back, recover}
use Rattle.format.specs.Writing.{entries, records, record_bytes, group_units, side_refusal, too_large, too_far, band_refusal, places, step_at, level_refusal, bands_refusal, index_refusal, numbers_refusal, lengths_refusal, call_refusal}
use Rattle.format.proofs.TurnLaws.{both-none, each-zero, not_on, on-not, or-false}
use Rattle.writing.proofs.Again.{redone}

-- ---- sizes
module _ (w H green_n red_n blue_n work_n : ℕ) (h : call_refusal w H green_n red_n blue_n work_n ≡ 0) where
  pub record Sides : Type 0 where
    pub narrow : w < 2 ^ 16
    pub whole : w % 16 ≡ 0
    pub wide : 0 < w
    pub even : H % 2 ≡ 0
    pub tall : 16 ≤ H
    pub low : H ≤ 32767
    pub large : large_refusal w H ≡ 0
    pub lent : short_refusal w H green_n red_n blue_n work_n ≡ 0

  pub sides : Sides
  unfolding call_refusal side_refusal
  sides =
      let a = both-none (on (eqb w 0 || not (eqb (w % 16) 0) || ltb 65535 w || eqb H 0 || not (eqb (H % 2) 0) || ltb 131070 H) 2) _ h in
      let z = both-none (large_refusal w H) _ a.1 in
      let b = both-none (short_refusal w H green_n red_n blue_n work_n) _ z.1 in
      let c = both-none (on (ltb 32767 H) 20) _ b.1 in
      let d = not_on _ 1 a.0 in
      let e1 = or-false _ (ltb 131070 H) d in
      let e2 = or-false _ (not (eqb (H % 2) 0)) e1.0 in
      let e3 = or-false _ (eqb H 0) e2.0 in
      let e4 = or-false _ (ltb 65535 w) e3.0 in
      let e5 = or-false (eqb w 0) (not (eqb (w % 16) 0)) e4.0 in
      let whole : w % 16 ≡ 0 = eqb-true _ 0 (not-false _ e5.1) in
      let even : H % 2 ≡ 0 = eqb-true _ 0 (not-false _ e2.1) in
      let low : H ≤ 32767 = ltb-false 32767 H (not_on _ 19 c.0) in
      let tall : 16 ≤ H = ltb-false H 16 (not_on _ 23 c.1) in
      let narrow : w ≤ 65535 = ltb-false 65535 w e4.1 in
      record { narrow = omega arith; whole = whole; wide = omega (arith, eqb-false w 0 e5.0); even = even; tall = tall; low = low; large = z.0; lent = b.0 }

-- another call of that size is not refused, if its slices are long enough
pub call-again : (w H green_n red_n blue_n work_n green_m red_m blue_m work_m : ℕ) → call_refusal w H green_n red_n blue_n work_n ≡ 0
    → short_refusal w H green_m red_m blue_m work_m ≡ 0 → call_refusal w H green_m red_m blue_m work_m ≡ 0
unfolding call_refusal
call-again w H green_n red_n blue_n work_n green_m red_m blue_m work_m h lent =
    let a = both-none (side_refusal w H) _ h in
    let b = both-none (large_refusal w H) _ a.1 in
    let c = both-none (short_refusal w H green_n red_n blue_n work_n) _ b.1 in
    rw (a.0, b.0, lent) c.1

-- ---- lengths
module _ (w H : ℕ) (v : Coefs) (h : lengths_refusal w H v ≡ 0) where
  pub short : (g k r : ℕ) → g < 5 → k < entries (numbered g) → r < records H → record_bytes w H v (numbered g) (indexed k) r < 2 ^ 16
  unfolding lengths_refusal
  short g k r a b c =
      let p = both-none (each (λ g. each (λ k. each (λ r. on (ltb 65535 (record_bytes w H v (numbered g) (indexed k) r)) 26) (records H)) (entries (numbered g))) 5) _ h in
      let q = each-zero _ g 5 p.0 a in
      let s = each-zero _ k (entries (numbered g)) q b in
      let t = each-zero _ r (records H) s c in
      omega (arith, ltb-false 65535 (record_bytes w H v (numbered g) (indexed k) r) (not_on _ 25 t))

  pub groups : (g : ℕ) → g < 5 → group_units w H v g < 2 ^ 24
  unfolding lengths_refusal
  groups g a =
      let p = both-none (each (λ g. each (λ k. each (λ r. on (ltb 65535 (record_bytes w H v (numbered g) (indexed k) r)) 26) (records H)) (entries (numbered g))) 5) _ h in
      let q = each-zero (λ g. on (ltb 268435440 (16 * group_units w H v g)) 26) g 5 p.1 a in
      omega (arith, ltb-false 268435440 (16 * group_units w H v g) (not_on _ 25 q))

-- ---- numbers
eq_z-true : (a b : ℤ) → eq_z a b ≡ true → a ≡ b
eq_z-true (pos a) (pos b) e = ap pos (eqb-true a b e)
eq_z-true (pos a) (negsuc b) e = absurd (true≢false (sym e))
eq_z-true (negsuc a) (pos b) e = absurd (true≢false (sym e))
eq_z-true (negsuc a) (negsuc b) e = ap negsuc (eqb-true a b e)

not-large : (z : ℤ) → too_large z ≡ 0 → nat_abs z < 2 ^ 19
not-large z h = omega (arith, ltb-false 524287 (nat_abs z) (not_on _ 24 h))

not-far : (z : ℤ) → too_far z ≡ 0 → SFits w16 z
not-far z h = subst (SFits w16) (eq_z-true (cut w16 z) z (on-not _ 24 h)) (cut_fits w16 z)

band-whole : (odd : Bool) (s : Source) (z : ℤ) → band_refusal odd s z ≡ 0 → redone odd s z ≡ z
band-whole odd (S c r) z h = refl
band-whole odd (E c r) z h = eq_z-true _ z (on-not _ 24 (both-none (on (not (eq_z (edge_detail wrapping odd (back odd (E c r) z)) z)) 25) _ h).0)

band-small : (odd : Bool) (s : Source) (z : ℤ) → band_refusal odd s z ≡ 0 → nat_abs (back odd s z) < 2 ^ 19
band-small odd (S c r) z h = not-large z h
band-small odd (E c r) z h = not-large (back odd (E c r) z) (both-none (on (not (eq_z (edge_detail wrapping odd (back odd (E c r) z)) z)) 25) _ h).1

place-zero : (h w : ℕ) (f : ℕ → ℕ → ℕ) → places h w f ≡ 0 → (y x : ℕ) → y < h → x < w → f y x ≡ 0
place-zero h w f e y x p q = each-zero (f y) x w (each-zero (λ y. each (f y) w) y h e p) q

short16 : (z : ℤ) → SFits w16 z → nat_abs z < 2 ^ 19
short16 (pos n) f = omega arith
short16 (negsuc n) f = omega arith

-- what holds of all rows and of the rest holds of what is found
seek-holds : (P : ℤ → Type 0) (odd : Bool) (src : ℕ → Source) (p : Plane) (c r x n : ℕ) (rest : ℤ) → ((y : ℕ) → y < n → P (back odd (src y) (p y x))) → P rest → P (seek odd src p c r x n rest)
unfolding seek
seek-holds P odd src p c r x zero rest h e = e
seek-holds P odd src p c r x (suc n) rest h e =
    of-cond P (eqb (from_component (src n)) c && eqb (from_row (src n)) r) _ _ (λ _. h n (omega arith)) (λ _. seek-holds P odd src p c r x n rest (λ y l. h y (omega arith)) e)

abbrev Below : ℤ → Type 0
Below z = nat_abs z < 2 ^ 19

module _ (g : Bool) (n w : ℕ) (p : Colour → List ℤ) (h : numbers_refusal g n w p ≡ 0) where
  index-none : (i : Colour) → index_refusal g n w i (out_of g n w p i) ≡ 0
  unfolding numbers_refusal
  index-none green = (both-none (index_refusal g n w green (out_of g n w p green)) _ h).0
  index-none red = (both-none (index_refusal g n w red (out_of g n w p red)) _ (both-none (index_refusal g n w green (out_of g n w p green)) _ h).1).0
  index-none blue = (both-none (index_refusal g n w blue (out_of g n w p blue)) _ (both-none (index_refusal g n w red (out_of g n w p red)) _ (both-none (index_refusal g n w green (out_of g n w p green)) _ h).1).1).0

  details-small : (y x : ℕ) → y < plane_rows g n → x < w / 2 → Below (d_of (plane_rows g n) (read_plane w (p green)) y x)
  unfolding numbers_refusal
  details-small y x a b =
      let e = (both-none (index_refusal g n w blue (out_of g n w p blue)) _ (both-none (index_refusal g n w red (out_of g n w p red)) _ (both-none (index_refusal g n w green (out_of g n w p green)) _ h).1).1).1 in
      let d = d_of (plane_rows g n) (read_plane w (p green)) in
      not-large (d y x) (place-zero (plane_rows g n) (w / 2) (λ y x. too_large (d y x)) e y x a b)

  pub steps-fit : (i : Colour) (y x : ℕ) → y < height g n l1 → x < w / 16 → SFits w16 (step_at g n w i (out_of g n w p i) y x)
  unfolding index_refusal
  steps-fit i y x a b =
      let e1 = (both-none (bands_refusal g n w i (out_of g n w p i) l3) _ (index-none i)).1 in
      let e2 = (both-none (bands_refusal g n w i (out_of g n w p i) l2) _ e1).1 in
      let e3 = (both-none (bands_refusal g n w i (out_of g n w p i) l1) _ e2).1 in
      not-far _ (place-zero (height g n l1) (w / 16) (λ y x. too_far (step_at g n w i (out_of g n w p i) y x)) e3 y x a b)

  three : (l : Level) (i : Colour) → bands_refusal g n w i (out_of g n w p i) l ≡ 0 → (b : Band) → level_refusal g n w i (out_of g n w p i) l b ≡ 0
  unfolding bands_refusal
  three l i e hh = (both-none (level_refusal g n w i (out_of g n w p i) l hh) _ e).0
  three l i e lh = (both-none (level_refusal g n w i (out_of g n w p i) l lh) _ (both-none (level_refusal g n w i (out_of g n w p i) l hh) _ e).1).0
  three l i e hl = (both-none (level_refusal g n w i (out_of g n w p i) l lh) _ (both-none (level_refusal g n w i (out_of g n w p i) l hh) _ e).1).1

  level-none : (l : Level) (i : Colour) (b : Band) → level_refusal g n w i (out_of g n w p i) l b ≡ 0
  unfolding index_refusal
  level-none l i b =
      let e3 = both-none (bands_refusal g n w i (out_of g n w p i) l3) _ (index-none i) in
      let e2 = both-none (bands_refusal g n w i (out_of g n w p i) l2) _ e3.1 in
      let e1 = both-none (bands_refusal g n w i (out_of g n w p i) l1) _ e2.1 in
      by l e1.0 e2.0 e3.0
    where
      by : (l : Level) → bands_refusal g n w i (out_of g n w p i) l1 ≡ 0 → bands_refusal g n w i (out_of g n w p i) l2 ≡ 0 → bands_refusal g n w i (out_of g n w p i) l3 ≡ 0 → level_refusal g n w i (out_of g n w p i) l b ≡ 0
      by l1 e f h = three l1 i e b
      by l2 e f h = three l2 i f b
      by l3 e f h = three l3 i h b

  band-none : (l : Level) (i : Colour) (b : Band) (y x : ℕ) → y < band_rows (height g n l) (highs g l (height g n l)) b → x < columns w (detail l)
      → band_refusal (mode l i) (source g l (height g n l) b y) (unband g n w l (given g n w l (out_of g n w p i)) b y x) ≡ 0
  band-none l i b y x =
      place-zero _ _ (λ y x. band_refusal (mode l i) (source g l (height g n l) b y) (unband g n w l (given g n w l (out_of g n w p i)) b y x)) (level-none l i b) y x

  pub edges-whole : (l : Level) (i : Colour) (b : Band) (y x : ℕ) → y < band_rows (height g n l) (highs g l (height g n l)) b → x < columns w (detail l)
      → redone (mode l i) (source g l (height g n l) b y) (unband g n w l (given g n w l (out_of g n w p i)) b y x) ≡ unband g n w l (given g n w l (out_of g n w p i)) b y x
  edges-whole l i b y x a c = band-whole (mode l i) (source g l (height g n l) b y) _ (band-none l i b y x a c)

  -- every coefficient that is written
  lifted-small : (l : Level) (i : Colour) (c r x : ℕ) → x < columns w (detail l) → Below (lifted_back g n w l i (out_of g n w p i) c r x)
  unfolding lifted_back
  lifted-small l i c r x q =
      let all : (b : Band) (y : ℕ) → y < band_rows (height g n l) (highs g l (height g n l)) b → Below (back (mode l i) (source g l (height g n l) b y) (unband g n w l (given g n w l (out_of g n w p i)) b y x)) =
      λ b y a. band-small (mode l i) (source g l (height g n l) b y) _ (band-none l i b y x a q) in
      seek-holds Below _ _ _ c r x _ _ (all hl) (seek-holds Below _ _ _ c r x _ _ (all lh) (seek-holds Below _ _ _ c r x _ (pos 0) (all hh) (omega arith)))

  summed-small : (i : Colour) (c r x : ℕ) → Below (summed_back g n w (out_of g n w p i) c r x)
  unfolding summed_back
  summed-small i c r x = seek-holds Below false _ (differences (unstep g n w l1 (given g n w l1 (out_of g n w p i)))) c r x _ (pos 0) (λ y _. short16 _ (cut_fits w16 _)) (omega arith)

  picked-small : (i : Colour) (c r x : ℕ) → x < w / 2 → Below (picked_back g n w p i c r x)
  unfolding picked_back
  picked-small green c r x q = seek-holds Below false (λ y. S 0 (chosen g y)) _ c r x _ (pos 0) (λ y a. details-small y x a q) (omega arith)
  picked-small red c r x q = omega arith
  picked-small blue c r x q = omega arith

pub small : (w H : ℕ) (p : Colour → List ℤ) → numbers_refusal (guarded H) (stripes H) w p ≡ 0 → (g : Group) (i : Colour) (c r x : ℕ) → x < columns w g → nat_abs (recover w H p g i c r x) < 2 ^ 19
unfolding recover
small w H p h base i c r x q = summed-small (guarded H) (stripes H) w p h i c r x
small w H p h (detail l) i c r x q = lifted-small (guarded H) (stripes H) w p h l i c r x q
small w H p h final i c r x q = picked-small (guarded H) (stripes H) w p h i c r x q
