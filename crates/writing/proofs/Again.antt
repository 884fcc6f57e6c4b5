-- The planes of the coefficients that recovery makes of them are the planes again, where no number is refused by 25. Assumes nothing.
use Rattle.std.proofs.Common.{◌≡◌, refl, sym, ap, ◌∙◌, Bool, false, List, ◌++◌, ℕ, zero, suc, ◌+◌, ◌*◌, ◌/◌, ◌%◌, ◌≤◌, ◌<◌, arith, ℤ, pos, length, get_or, take, drop, take-add, zero-mul, w16, w32, SFits}
use Rattle.wrap32.specs.Arithmetic.{wrapping}
use Rattle.lists.specs.Lists.{rows}
use Rattle.lists.proofs.Tab.{tab-of, tab-cong, get_d_part, length_part}
use Rattle.wrap32.specs.Cut.{cut, sub_w}
use Rattle.wrap32.specs.Edge.{edge_detail}
use Rattle.wrap32.proofs.Laws.{cut-id, add-sub, add_w-comm}
use Rattle.format.specs.Lifting.{Signal, Plane, SameOn}
use Rattle.format.specs.Sizes.{Colour, green, red, blue, Level, l1, l2, l3, base, detail, final, stripes, guarded, columns, plane_rows, plane_columns, Tall}
use Rattle.format.specs.Coefficients.{Coefs}
use Rattle.format.specs.Table.{start, height, highs, Source, S, E, Band, hl, lh, hh, source, band_rows, mode, chosen, from_component, from_row}
use Rattle.format.specs.Synthesis.{sum_of, value, bands, step, ll1, ll2, ll3, outcome, plane_of, planes, flat}
use Rattle.format.specs.Recovery.{read_plane, d_of, back, before, differences, unstep, given, unband, summed_back, lifted_back, out_of, picked_back, recover}
use Rattle.format.proofs.LevelLaws.{Fits, level-same}
use Rattle.format.proofs.GreenLaws.{greens-same}
use Rattle.format.proofs.PlaceLaws.{seek-rest, seek_found, flat-same}
use Rattle.format.proofs.Exact.{Coded, tall-of, shape, rows-after}
use Rattle.writing.proofs.Redo.{level-again, ll-fits, green-redone, l-fits}
use Rattle.writing.proofs.Homes.{Home, at, home, home-source, user, user-chosen}

-- ---- band 0: differences along a row, summed
telescope : (f : Signal) → ((k : ℕ) → SFits w32 (f k)) → (g : Signal) (x : ℕ) → ((k : ℕ) → k < suc x → g k ≡ sub_w (f k) (before f k)) → sum_of wrapping g (suc x) ≡ f x
unfolding sum_of
telescope f r g zero e = rw (e 0 (omega arith)) (add_w-comm (pos 0) (sub_w (f 0) (pos 0)) ∙ add-sub (f 0) (pos 0) (r 0))
telescope f r g (suc x) e =
    rw (telescope f r g x (λ k h. e k (omega arith)), e (suc x) (omega arith))
    (add_w-comm (f x) (sub_w (f (suc x)) (f x)) ∙ add-sub (f (suc x)) (f x) (r (suc x)))

-- ---- the planes that a list holds, in a list again
flat-read : (h w : ℕ) (l : List ℤ) → h * w ≤ length l → flat h w (read_plane w l) ≡ take (h * w) l
unfolding rows
flat-read zero w l k = ap (λ (m : ℕ). take m l) (sym (zero-mul w))
flat-read (suc h) w l k =
    let m : h * w + w ≡ suc h * w = omega arith in
    let e : length (take w (drop (h * w) l)) ≡ w = length_part l (h * w) w (omega arith) in
    rw (flat-read h w l (omega arith), ← m, take-add (h * w) w l)
    (ap (λ (z : List ℤ). take (h * w) l ++ z)
    (sym (tab-of (pos 0) (take w (drop (h * w) l)) ∙ tab-cong _ w _ (read_plane w l h) e (λ x b. get_d_part l (h * w) w x (pos 0) b))))

-- a number of a band, after it went back
abbrev pub redone : Bool → Source → ℤ → ℤ
redone odd (S c r) z = z
redone odd (E c r) z = edge_detail wrapping odd (back odd (E c r) z)

module _ (g : Bool) (n w : ℕ) (t : Tall g n) (k : w % 16 ≡ 0) (i : Colour) (out : Plane) (f : Fits out) where
  given-fits : (l : Level) → Fits (given g n w l out)
  given-fits l3 = f
  given-fits l2 = ll-fits _ _ _ _ (shape g n l3 t) out f
  given-fits l1 = ll-fits _ _ _ _ (shape g n l2 t) _ (ll-fits _ _ _ _ (shape g n l3 t) out f)

  -- level 1's ll
  abbrev pub under : Plane
  under = unstep g n w l1 (given g n w l1 out)

  under-fits : Fits under
  under-fits = ll-fits _ _ _ _ (shape g n l1 t) _ (given-fits l1)

  -- what 25 rules out
  abbrev pub Steps : Type 0
  Steps = (y x : ℕ) → y < height g n l1 → x < w / 16 → SFits w16 (sub_w (under y x) (before (under y) x))

  abbrev pub Edges : Type 0
  Edges = (l : Level) (b : Band) (y x : ℕ) → y < band_rows (height g n l) (highs g l (height g n l)) b → x < columns w (detail l)
      → redone (mode l i) (source g l (height g n l) b y) (unband g n w l (given g n w l out) b y x) ≡ unband g n w l (given g n w l out) b y x

  -- ---- each row of a band finds its coefficients
  module _ (l : Level) (x : ℕ) where
    abbrev held : Home → ℤ
    held m = back (mode l i) (source g l (height g n l) m.band m.row) (unband g n w l (given g n w l out) m.band m.row x)

    gives : (b : Band) (c r y : ℕ) → y < band_rows (height g n l) (highs g l (height g n l)) b → from_component (source g l (height g n l) b y) ≡ c → from_row (source g l (height g n l) b y) ≡ r
        → held (at b y) ≡ held (home g l (height g n l) c r)
    gives b c r y p a z = ap held (sym (home-source g n t l b y p)) ∙ (λ j. held (home g l (height g n l) (a j) (z j)))

    lifted-held : (b : Band) (c r y : ℕ) → y < band_rows (height g n l) (highs g l (height g n l)) b → from_component (source g l (height g n l) b y) ≡ c → from_row (source g l (height g n l) b y) ≡ r
        → lifted_back g n w l i out c r x ≡ held (home g l (height g n l) c r)
    unfolding lifted_back
    lifted-held hl c r y p a z = seek_found _ _ _ c r x _ (height g n l) _ (gives hl c r) y p a z
    lifted-held lh c r y p a z =
        seek-rest _ _ _ c r x _ (height g n l) _ (gives hl c r) (seek_found _ _ _ c r x _ (highs g l (height g n l)) _ (gives lh c r) y p a z)
    lifted-held hh c r y p a z =
        seek-rest _ _ _ c r x _ (height g n l) _ (gives hl c r)
        (seek-rest _ _ _ c r x _ (highs g l (height g n l)) _ (gives lh c r) (seek_found _ _ _ c r x _ (highs g l (height g n l)) _ (gives hh c r) y p a z))

    pub lifted-home : (b : Band) (y : ℕ) → y < band_rows (height g n l) (highs g l (height g n l)) b
        → lifted_back g n w l i out (from_component (source g l (height g n l) b y)) (from_row (source g l (height g n l) b y)) x
        ≡ back (mode l i) (source g l (height g n l) b y) (unband g n w l (given g n w l out) b y x)
    lifted-home b y p = lifted-held b _ _ y p refl refl ∙ ap held (home-source g n t l b y p)

  pub summed-home : (y x : ℕ) → y < height g n l1 → summed_back g n w out 0 (y + start g) x ≡ differences under y x
  unfolding summed_back
  summed-home y x p =
      seek_found false (λ j. S 0 (j + start g)) (differences under) 0 (y + start g) x _ (height g n l1) (pos 0)
      (λ j a b z. let e : j ≡ y = omega arith in ap (λ (q : ℕ). differences under q x) e) y p refl refl

  -- ---- so the levels give the planes again
  module _ (v : Coefs) (a : Steps) (e : Edges) (vb : v base i ≡ summed_back g n w out) (vd : (l : Level) → v (detail l) i ≡ lifted_back g n w l i out) where
    bands-again : (l : Level) (b : Band) → SameOn (band_rows (height g n l) (highs g l (height g n l)) b) (columns w (detail l)) (bands wrapping g l (height g n l) i (v (detail l) i) b) (unband g n w l (given g n w l out) b)
    bands-again l b y x p q = rw (vd l) (same (mode l i) (source g l (height g n l) b y) _ (lifted-home l x b y p) (e l b y x p q))
      where
        same : (odd : Bool) (s : Source) (z : ℤ) → lifted_back g n w l i out (from_component s) (from_row s) x ≡ back odd s z → redone odd s z ≡ z → value wrapping odd s (lifted_back g n w l i out) x ≡ z
        same odd (S c r) z found whole = found
        same odd (E c r) z found whole = ap (edge_detail wrapping odd) found ∙ whole

    ll1-again : SameOn (height g n l1) (w / 16) (ll1 wrapping g n w i v) under
    unfolding ll1
    ll1-again y x p q =
        rw vb
        (telescope (under y) (under-fits y) _ x (λ j h.
        ap (cut w16) (summed-home y j p ∙ cut-id w16 _ (a y j p (omega arith))) ∙ cut-id w16 _ (a y j p (omega arith))))

    step-again : (l : Level) (ll : Plane) → SameOn (height g n l) (columns w (detail l)) ll (unstep g n w l (given g n w l out))
        → SameOn (height g n l + highs g l (height g n l)) (columns w (detail l) + columns w (detail l)) (step wrapping g n w l i v ll) (given g n w l out)
    step-again l ll s y x p q =
        level-same _ _ _ _ (shape g n l t) _ _ wrapping _ _ s (bands-again l) y x p q
        ∙ level-again _ _ _ _ (shape g n l t) (given g n w l out) (given-fits l) y x p q

    ll2-again : SameOn (height g n l2) (w / 8) (ll2 wrapping g n w i v) (given g n w l1 out)
    unfolding ll2
    ll2-again y x p q = step-again l1 _ ll1-again y x (omega (arith, rows-after g n l1 t)) (omega arith)

    ll3-again : SameOn (height g n l3) (w / 4) (ll3 wrapping g n w i v) (given g n w l2 out)
    unfolding ll3
    ll3-again y x p q = step-again l2 _ ll2-again y x (omega (arith, rows-after g n l2 t)) (omega arith)

    pub outcome-again : SameOn (plane_rows g n) (w / 2) (outcome wrapping g n w i v) out
    unfolding outcome
    outcome-again y x p q = step-again l3 _ ll3-again y x (omega (arith, rows-after g n l3 t)) (omega arith)

-- ---- the theorem: for every size that is accepted, plain or guarded
module _ (w H : ℕ) (a : Coded w H) (p : Colour → List ℤ) (f : (i : Colour) (j : ℕ) → SFits w32 (get_or (p i) j (pos 0))) where
  abbrev pub tall : Tall (guarded H) (stripes H)
  tall = tall-of H a.tall

  abbrev pub outs : Colour → Plane
  outs = out_of (guarded H) (stripes H) w p

  pub outs-fit : (i : Colour) → Fits (outs i)
  unfolding out_of
  outs-fit green y x = l-fits (plane_rows (guarded H) (stripes H)) (w / 2) (read_plane w (p green)) (λ y x. f green (y * w + x)) y x
  outs-fit red y x = f red (y * (w / 2) + x)
  outs-fit blue y x = f blue (y * (w / 2) + x)

  -- 25 refuses none of the numbers
  pub record Whole : Type 0 where
    pub steps : (i : Colour) → Steps (guarded H) (stripes H) w tall a.whole i (outs i) (outs-fit i)
    pub edges : (i : Colour) → Edges (guarded H) (stripes H) w tall a.whole i (outs i) (outs-fit i)

  picked-home : (y x : ℕ) → y < plane_rows (guarded H) (stripes H) → recover w H p final green 0 (chosen (guarded H) y) x ≡ d_of (plane_rows (guarded H) (stripes H)) (read_plane w (p green)) y x
  unfolding recover picked_back
  picked-home y x q =
      let d = d_of (plane_rows (guarded H) (stripes H)) (read_plane w (p green)) in
      seek_found false (λ j. S 0 (chosen (guarded H) j)) d 0 (chosen (guarded H) y) x _ (plane_rows (guarded H) (stripes H)) (pos 0)
      (λ j b c z. let e : j ≡ y = sym (user-chosen (guarded H) j) ∙ ap (user (guarded H)) z ∙ user-chosen (guarded H) y in ap (λ (r : ℕ). d r x) e) y q refl refl

  module _ (o : Whole) where
    out-again : (i : Colour) → SameOn (plane_rows (guarded H) (stripes H)) (w / 2) (outcome wrapping (guarded H) (stripes H) w i (recover w H p)) (outs i)
    unfolding recover
    out-again i = outcome-again (guarded H) (stripes H) w tall a.whole i (outs i) (outs-fit i) (recover w H p) (o.steps i) (o.edges i) refl (λ l. refl)

    plane-again : (i : Colour) → SameOn (plane_rows (guarded H) (stripes H)) (plane_columns w i) (plane_of wrapping (guarded H) (stripes H) w (recover w H p) i) (read_plane (plane_columns w i) (p i))
    unfolding out_of
    plane-again green y x q r =
        greens-same wrapping (plane_rows (guarded H) (stripes H)) (w / 2) _ _ _ _ (out-again green) (λ j k b d. picked-home j k b) y x q (omega (arith, a.whole))
        ∙ green-redone (plane_rows (guarded H) (stripes H)) (w / 2) (read_plane w (p green)) (λ j k. f green (j * w + k)) y x q (omega (arith, a.whole))
    plane-again red y x q r = out-again red y x q r
    plane-again blue y x q r = out-again blue y x q r

    pub planes-again : (i : Colour) → planes wrapping w H (recover w H p) i ≡ flat (plane_rows (guarded H) (stripes H)) (plane_columns w i) (read_plane (plane_columns w i) (p i))
    unfolding planes
    planes-again i = flat-same (plane_rows (guarded H) (stripes H)) (plane_columns w i) _ _ (plane-again i)

    -- as they were lent
    pub planes-taken : (i : Colour) → plane_rows (guarded H) (stripes H) * plane_columns w i ≤ length (p i) → planes wrapping w H (recover w H p) i ≡ take (plane_rows (guarded H) (stripes H) * plane_columns w i) (p i)
    planes-taken i h = planes-again i ∙ flat-read (plane_rows (guarded H) (stripes H)) (plane_columns w i) (p i) h
