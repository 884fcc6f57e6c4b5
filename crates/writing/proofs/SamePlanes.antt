-- Recovery depends on no number beyond the places of the planes: its coefficients, and what refuses them. Assumes nothing.
use Rattle.std.proofs.Common.{◌≡◌, refl, sym, ap, ◌∙◌, Bool, false, cond, ◌&&◌, List, ℕ, zero, suc, ◌+◌, ◌*◌, ◌/◌, ◌<◌, mul-le-mul_right, arith, eqb, ℤ, pos, ◌+ℤ◌, get_or, take, get_or-take, w16}
use Rattle.std.specs.Int.Signed.{shr_z}
use Rattle.wrap32.specs.Cut.{cut, add_w, sub_w}
use Rattle.wrap32.specs.Arithmetic.{wrapping}
use Rattle.format.specs.Lifting.{Plane, Lead, low_leads, Shape, SameOn}
use Rattle.format.specs.Sizes.{Colour, green, red, blue, Level, l1, l2, l3, Group, base, detail, final, stripes, guarded, columns, plane_rows, plane_columns, Tall}
use Rattle.format.specs.Table.{height, highs, Source, S, Band, hl, lh, hh, source, band_rows, mode, chosen, from_component, from_row}
use Rattle.format.specs.Refusals.{◌▷◌}
use Rattle.format.specs.Recovery.{read_plane, o_of, d_of, l_of, lo_of, hi_of, ll_of, band_of, back, seek, unstep, given, unband, summed_back, lifted_back, out_of, picked_back, recover}
use Rattle.format.specs.Writing.{too_large, too_far, band_refusal, places, step_at, level_refusal, bands_refusal, index_refusal, numbers_refusal}
use Rattle.format.proofs.LiftingLaws.{highs-same, lows-same}
use Rattle.format.proofs.GreenLaws.{guess-same, around-same}
use Rattle.format.proofs.PlaceLaws.{before_same}
use Rattle.format.proofs.TurnLaws.{each_same}
use Rattle.format.proofs.Exact.{shape, rows-after}

-- ---- planes in lists that begin the same
read_same : (h w : ℕ) (l m : List ℤ) → take (h * w) l ≡ take (h * w) m → SameOn h w (read_plane w l) (read_plane w m)
read_same h w l m e y x a b =
    let k : y * w + x < h * w = omega (arith, mul-le-mul_right w a) in
    sym (get_or-take (h * w) l (y * w + x) (pos 0) k)
    ∙ ap (λ (t : List ℤ). get_or t (y * w + x) (pos 0)) e
    ∙ get_or-take (h * w) m (y * w + x) (pos 0) k

-- ---- green
module _ (h c : ℕ) (p q : Plane) (s : SameOn h (c + c) p q) where
  odds-same : SameOn h c (o_of p) (o_of q)
  odds-same y x a b = s y (2 * x + 1) a (omega arith)

  details-same : SameOn h c (d_of h p) (d_of h q)
  unfolding d_of
  details-same y x a b =
      let e = s y (2 * x) a (omega arith) in
      let f = around-same wrapping h c (o_of p) (o_of q) odds-same y x a b in
      λ i. sub_w (e i) (f i)

  averages-same : SameOn h c (l_of h c p) (l_of h c q)
  unfolding l_of
  averages-same y x a b =
      let e = odds-same y x a b in
      let f = guess-same wrapping h c (d_of h p) (d_of h q) details-same y x a b in
      λ i. add_w (e i) (shr_z (f i +ℤ pos 1) 2)

-- ---- a level
module _ (d : Lead) (h m w : ℕ) (e : Shape d h m) (out out' : Plane) (s : SameOn (h + m) (w + w) out out') where
  lo-same : SameOn (h + m) w (lo_of d h m w out) (lo_of d h m w out')
  unfolding lo_of
  lo-same y x a b = lows-same w w low_leads (out y) (out' y) refl (λ k r. s y k a r) x b

  hi-same : SameOn (h + m) w (hi_of d h m w out) (hi_of d h m w out')
  unfolding hi_of
  hi-same y x a b = highs-same w w low_leads (out y) (out' y) refl (λ k r. s y k a r) x b

  ll-same : SameOn h w (ll_of d h m w out) (ll_of d h m w out')
  unfolding ll_of
  ll-same y x a b = lows-same h m d (λ i. lo_of d h m w out i x) (λ i. lo_of d h m w out' i x) e (λ k r. lo-same k x r b) y a

  band-same : (k : Band) → SameOn (band_rows h m k) w (band_of d h m w out k) (band_of d h m w out' k)
  unfolding band_of
  band-same hl y x a b = lows-same h m d (λ i. hi_of d h m w out i x) (λ i. hi_of d h m w out' i x) e (λ k r. hi-same k x r b) y a
  band-same lh y x a b = highs-same h m d (λ i. lo_of d h m w out i x) (λ i. lo_of d h m w out' i x) e (λ k r. lo-same k x r b) y a
  band-same hh y x a b = highs-same h m d (λ i. hi_of d h m w out i x) (λ i. hi_of d h m w out' i x) e (λ k r. hi-same k x r b) y a

-- ---- a row that is sought, and all places of rows
seek-same : (odd : Bool) (src : ℕ → Source) (p q : Plane) (c r x n : ℕ) (a b : ℤ) → ((y : ℕ) → y < n → p y x ≡ q y x) → a ≡ b
    → seek odd src p c r x n a ≡ seek odd src q c r x n b
unfolding seek
seek-same odd src p q c r x zero a b s e = e
seek-same odd src p q c r x (suc n) a b s e =
    let f = s n (omega arith) in
    let rest = seek-same odd src p q c r x n a b (λ y l. s y (omega arith)) e in
    λ i. cond (eqb (from_component (src n)) c && eqb (from_row (src n)) r) (back odd (src n) (f i)) (rest i)

places_same : (h w : ℕ) (f g : ℕ → ℕ → ℕ) → ((y x : ℕ) → y < h → x < w → f y x ≡ g y x) → places h w f ≡ places h w g
places_same h w f g s = each_same _ _ h (λ y a. each_same (f y) (g y) w (λ x b. s y x a b))

-- ---- an index, from what came out of its levels
module _ (g : Bool) (n w : ℕ) (t : Tall g n) (i : Colour) (out out' : Plane) (s : SameOn (plane_rows g n) (w / 2) out out') where
  -- what each level gave
  abbrev Given : Level → Type 0
  Given l =
      SameOn (height g n l + highs g l (height g n l)) (columns w (detail l) + columns w (detail l)) (given g n w l out) (given g n w l out')

  given-3 : Given l3
  given-3 y x a b = s y x (omega (arith, rows-after g n l3 t)) (omega arith)

  given-2 : Given l2
  given-2 y x a b = ll-same _ _ _ _ (shape g n l3 t) out out' given-3 y x (omega (arith, rows-after g n l2 t)) (omega arith)

  given-1 : Given l1
  given-1 y x a b =
      ll-same _ _ _ _ (shape g n l2 t) (given g n w l2 out) (given g n w l2 out') given-2 y x (omega (arith, rows-after g n l1 t)) (omega arith)

  given-same : (l : Level) → Given l
  given-same l1 = given-1
  given-same l2 = given-2
  given-same l3 = given-3

  unband-same : (l : Level) (b : Band)
      → SameOn (band_rows (height g n l) (highs g l (height g n l)) b) (columns w (detail l)) (unband g n w l (given g n w l out) b) (unband g n w l (given g n w l out') b)
  unband-same l b = band-same _ _ _ _ (shape g n l t) (given g n w l out) (given g n w l out') (given-same l) b

  -- level 1's ll, and its steps
  under_same : SameOn (height g n l1) (w / 16) (unstep g n w l1 (given g n w l1 out)) (unstep g n w l1 (given g n w l1 out'))
  under_same = ll-same _ _ _ _ (shape g n l1 t) (given g n w l1 out) (given g n w l1 out') given-1

  step_same : SameOn (height g n l1) (w / 16) (step_at g n w i out) (step_at g n w i out')
  step_same y x a b =
      let e = under_same y x a b in
      let f = before_same (w / 16) _ _ (λ k q. under_same y k a q) x b in
      λ j. sub_w (e j) (f j)

  -- the coefficients
  summed_same : (c r x : ℕ) → x < w / 16 → summed_back g n w out c r x ≡ summed_back g n w out' c r x
  unfolding summed_back
  summed_same c r x b = seek-same false _ _ _ c r x (height g n l1) (pos 0) (pos 0) (λ y a. ap (cut w16) (step_same y x a b)) refl

  lifted-same : (l : Level) (c r x : ℕ) → x < columns w (detail l) → lifted_back g n w l i out c r x ≡ lifted_back g n w l i out' c r x
  unfolding lifted_back
  lifted-same l c r x b =
      seek-same _ _ _ _ c r x _ _ _ (λ y a. unband-same l hl y x a b)
      (seek-same _ _ _ _ c r x _ _ _ (λ y a. unband-same l lh y x a b) (seek-same _ _ _ _ c r x _ _ _ (λ y a. unband-same l hh y x a b) refl))

  -- what refuses them
  level-same : (l : Level) (b : Band) → level_refusal g n w i out l b ≡ level_refusal g n w i out' l b
  level-same l b = places_same _ _ _ _ (λ y x a c. ap (band_refusal (mode l i) (source g l (height g n l) b y)) (unband-same l b y x a c))

  bands-same : (l : Level) → bands_refusal g n w i out l ≡ bands_refusal g n w i out' l
  unfolding bands_refusal
  bands-same l = λ j. level-same l hh j ▷ level-same l lh j ▷ level-same l hl j

  index_same : index_refusal g n w i out ≡ index_refusal g n w i out'
  unfolding index_refusal
  index_same =
      let steps = places_same _ _ _ _ (λ y x a b. ap too_far (step_same y x a b)) in
      λ j. bands-same l3 j ▷ bands-same l2 j ▷ bands-same l1 j ▷ steps j

-- ---- planes that are the same on their places
module _ (g : Bool) (n w : ℕ) (t : Tall g n) (p q : Colour → List ℤ) (s : (i : Colour) → take (plane_rows g n * plane_columns w i) (p i) ≡ take (plane_rows g n * plane_columns w i) (q i)) where
  green-same : SameOn (plane_rows g n) (w / 2 + w / 2) (read_plane w (p green)) (read_plane w (q green))
  green-same y x a b = read_same (plane_rows g n) w (p green) (q green) (s green) y x a (omega arith)

  out-same : (i : Colour) → SameOn (plane_rows g n) (w / 2) (out_of g n w p i) (out_of g n w q i)
  unfolding out_of
  out-same green = averages-same (plane_rows g n) (w / 2) (read_plane w (p green)) (read_plane w (q green)) green-same
  out-same red = read_same (plane_rows g n) (w / 2) (p red) (q red) (s red)
  out-same blue = read_same (plane_rows g n) (w / 2) (p blue) (q blue) (s blue)

  detail-same : SameOn (plane_rows g n) (w / 2) (d_of (plane_rows g n) (read_plane w (p green))) (d_of (plane_rows g n) (read_plane w (q green)))
  detail-same = details-same (plane_rows g n) (w / 2) (read_plane w (p green)) (read_plane w (q green)) green-same

  picked_same : (i : Colour) (c r x : ℕ) → x < w / 2 → picked_back g n w p i c r x ≡ picked_back g n w q i c r x
  unfolding picked_back
  picked_same green c r x b = seek-same false (λ y. S 0 (chosen g y)) _ _ c r x (plane_rows g n) (pos 0) (pos 0) (λ y a. detail-same y x a b) refl
  picked_same red c r x b = refl
  picked_same blue c r x b = refl

  -- what 25 refuses
  pub numbers-same : numbers_refusal g n w p ≡ numbers_refusal g n w q
  unfolding numbers_refusal
  numbers-same =
      let index : (i : Colour) → index_refusal g n w i (out_of g n w p i) ≡ index_refusal g n w i (out_of g n w q i) =
      λ i. index_same g n w t i (out_of g n w p i) (out_of g n w q i) (out-same i) in
      let details = places_same _ _ _ _ (λ y x a b. ap too_large (detail-same y x a b)) in
      λ j. index green j ▷ index red j ▷ index blue j ▷ details j

-- the coefficients in their columns
module _ (w H : ℕ) (t : Tall (guarded H) (stripes H)) (p q : Colour → List ℤ)
    (s : (i : Colour) → take (plane_rows (guarded H) (stripes H) * plane_columns w i) (p i) ≡ take (plane_rows (guarded H) (stripes H) * plane_columns w i) (q i)) where
  outs : (i : Colour) → SameOn (plane_rows (guarded H) (stripes H)) (w / 2) (out_of (guarded H) (stripes H) w p i) (out_of (guarded H) (stripes H) w q i)
  outs = out-same (guarded H) (stripes H) w t p q s

  pub recover-same : (m : Group) (i : Colour) (c r x : ℕ) → x < columns w m → recover w H p m i c r x ≡ recover w H q m i c r x
  unfolding recover
  recover-same base i c r x b = summed_same (guarded H) (stripes H) w t i _ _ (outs i) c r x b
  recover-same (detail l) i c r x b = lifted-same (guarded H) (stripes H) w t i _ _ (outs i) l c r x b
  recover-same final i c r x b = picked_same (guarded H) (stripes H) w t p q s i c r x b
