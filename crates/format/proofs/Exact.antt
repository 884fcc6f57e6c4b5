-- Recovery is exact: fed w, H and the three planes, it gives every coefficient of the rows that go in. Assumes nothing.
use Rattle.std.proofs.Common.{◌≡◌, refl, sym, ap, ◌∙◌, Bool, true, false, inl, inr, ◌↔◌, ℕ, ◌+◌, ◌*◌, ◌/◌, ◌%◌, ◌^◌, ◌≤◌, ◌<◌, arith, T, pos, nat_abs, w16}
use Rattle.std.proofs.lemmas.Bool.{false≢true, eqb-false, not-true}
use Rattle.wrap32.specs.Cut.{cut}
use Rattle.wrap32.specs.Arithmetic.{wrapping}
use Rattle.format.specs.Lifting.{Plane, Shape, SameOn}
use Rattle.format.specs.Sizes.{Colour, green, red, blue, Level, l1, l2, l3, Group, base, detail, final, stripes, guarded, Tall, multiplier, columns, plane_rows, plane_columns}
use Rattle.format.specs.Coefficients.{Coefs}
use Rattle.format.specs.Table.{start, height, lead, highs, Source, S, E, Band, hl, lh, hh, source, band_rows, is_edge, mode, chosen, from_component, from_row, GoesIn, summed, lifted, picked, as_e}
use Rattle.format.specs.Synthesis.{value, bands, step, ll1, ll2, ll3, ll_at, outcome, plane_of, planes}
use Rattle.format.specs.Recovery.{read_plane, back, differences, unstep, given, unband, summed_back, lifted_back, out_of, picked_back, recover, counted}
use Rattle.format.proofs.LevelLaws.{Fits, level-fits, level-same, ll-back, band-back}
use Rattle.format.proofs.GreenLaws.{greens-same, d-back, l-back}
use Rattle.format.proofs.Edges.{one_way}
use Rattle.format.proofs.PlaceLaws.{value-fits, value-back, seek-rest, seek_found, sums-fits, sums-back, sums_same, read-flat, flat-same}

-- ---- the statement's words

-- a coded size that is accepted
pub record Coded (w H : ℕ) : Type 0 where
  pub whole : w % 16 ≡ 0
  pub tall : 16 ≤ H

-- coefficients are 32-bit numbers
abbrev pub AllFit : Coefs → Type 0
AllFit v = (g : Group) (i : Colour) (c : ℕ) → Fits (v g i c)

-- and those of groups 1 to 3 are below 2 ^ 30 in magnitude
pub record Ranged (v : Coefs) : Type 0 where
  pub fits : AllFit v
  pub small : (l : Level) (i : Colour) (c r x : ℕ) → nat_abs (v (detail l) i c r x) < 2 ^ 30

-- the groups that go through the three levels
abbrev pub levelled : Group → Bool
levelled base = true
levelled (detail l) = true
levelled final = false

-- ---- sizes
pub tall-of : (H : ℕ) → 16 ≤ H → Tall (guarded H) (stripes H)
tall-of H h = by (guarded H) refl
  where
    by : (b : Bool) → guarded H ≡ b → Tall b (stripes H)
    by false e = omega arith
    by true e = omega (arith, eqb-false (H % 16) 0 (not-true _ e))

pub shape : (g : Bool) (n : ℕ) (l : Level) → Tall g n → Shape (lead g l) (height g n l) (highs g l (height g n l))
shape false n l t = refl
shape true n l1 t = (omega arith, inr refl)
shape true n l2 t = (omega arith, inl refl)
shape true n l3 t = refl

-- each level gives as many rows as the next begins with, and the last those of the planes
abbrev pub after : Bool → ℕ → Level → ℕ
after g n l1 = height g n l2
after g n l2 = height g n l3
after g n l3 = plane_rows g n

pub rows-after : (g : Bool) (n : ℕ) (l : Level) → Tall g n → height g n l + highs g l (height g n l) ≡ after g n l
rows-after false n l1 t = omega arith
rows-after false n l2 t = omega arith
rows-after false n l3 t = omega arith
rows-after true n l1 t = omega arith
rows-after true n l2 t = omega arith
rows-after true n l3 t = omega arith

-- the most rows that a level gives, and the least that planes have
pub after-most : (g : Bool) (n : ℕ) (l : Level) → after g n l ≤ 2 * multiplier (detail l) * n
after-most false n l1 = omega arith
after-most false n l2 = omega arith
after-most false n l3 = omega arith
after-most true n l1 = omega arith
after-most true n l2 = omega arith
after-most true n l3 = omega arith

pub planes-least : (g : Bool) (n : ℕ) → Tall g n → 8 ≤ plane_rows g n
planes-least false n t = omega arith
planes-least true n t = omega arith

module _ (g : Bool) (n w : ℕ) (t : Tall g n) (k : w % 16 ≡ 0) (i : Colour) where
  bands-fit : (v : Coefs) → AllFit v → (l : Level) (b : Band) → Fits (bands wrapping g l (height g n l) i (v (detail l) i) b)
  bands-fit v f l b y x = value-fits (mode l i) (source g l (height g n l) b y) (v (detail l) i) (λ c. f (detail l) i c) x

  ll_at-fits : (v : Coefs) (l : Level) → Fits (ll_at wrapping g n w i v l)
  unfolding ll1 ll2 ll3
  ll_at-fits v l1 = sums-fits g (v base i 0)
  ll_at-fits v l2 = level-fits _ _ _ _ (shape g n l1 t) _ _
  ll_at-fits v l3 = level-fits _ _ _ _ (shape g n l2 t) _ _

  pub outcome_fits : (v : Coefs) → Fits (outcome wrapping g n w i v)
  unfolding outcome
  outcome_fits v = level-fits _ _ _ _ (shape g n l3 t) _ _

  -- ---- forward: the outcome is settled by the rows that go in
  abbrev pub Like : Coefs → Coefs → Type 0
  Like u v = (m : Group) (c r x : ℕ) → T (levelled m) → GoesIn g n m i c r → x < columns w m → counted m (u m i c r x) ≡ counted m (v m i c r x)

  module _ (u v : Coefs) (e : Like u v) where
    bands-like : (l : Level) (b : Band) → SameOn (band_rows (height g n l) (highs g l (height g n l)) b) (columns w (detail l)) (bands wrapping g l (height g n l) i (u (detail l) i) b) (bands wrapping g l (height g n l) i (v (detail l) i) b)
    bands-like l b y x p q =
        same (mode l i) (source g l (height g n l) b y) (e (detail l) _ _ x tt (lifted l i b y p) q)
      where
        same : (odd : Bool) (s : Source) → u (detail l) i (from_component s) (from_row s) x ≡ v (detail l) i (from_component s) (from_row s) x → value wrapping odd s (u (detail l) i) x ≡ value wrapping odd s (v (detail l) i) x
        same odd (S c r) z = z
        same odd (E c r) z = rw z

    step-like : (l : Level) → SameOn (height g n l) (columns w (detail l)) (ll_at wrapping g n w i u l) (ll_at wrapping g n w i v l)
        → SameOn (height g n l + highs g l (height g n l)) (columns w (detail l) + columns w (detail l)) (step wrapping g n w l i u (ll_at wrapping g n w i u l)) (step wrapping g n w l i v (ll_at wrapping g n w i v l))
    step-like l s = level-same _ _ _ _ (shape g n l t) _ _ wrapping _ _ s (bands-like l)

    ll1-like : SameOn (height g n l1) (w / 16) (ll_at wrapping g n w i u l1) (ll_at wrapping g n w i v l1)
    unfolding ll1
    ll1-like = sums_same g (u base i 0) (v base i 0) (height g n l1) (w / 16) (λ y x p q. e base 0 (y + start g) x tt (summed i y p) q)

    ll2-like : SameOn (height g n l2) (w / 8) (ll_at wrapping g n w i u l2) (ll_at wrapping g n w i v l2)
    unfolding ll2
    ll2-like y x p q = step-like l1 ll1-like y x (omega (arith, rows-after g n l1 t)) (omega arith)

    ll3-like : SameOn (height g n l3) (w / 4) (ll_at wrapping g n w i u l3) (ll_at wrapping g n w i v l3)
    unfolding ll3
    ll3-like y x p q = step-like l2 ll2-like y x (omega (arith, rows-after g n l2 t)) (omega arith)

    pub outcome-like : SameOn (plane_rows g n) (w / 2) (outcome wrapping g n w i u) (outcome wrapping g n w i v)
    unfolding outcome
    outcome-like y x p q = step-like l3 ll3-like y x (omega (arith, rows-after g n l3 t)) (omega arith)

  -- ---- backward: from what has the outcome on its rows
  module _ (v : Coefs) (f : AllFit v) (out : Plane) (s : SameOn (plane_rows g n) (w / 2) out (outcome wrapping g n w i v)) where
    abbrev Got : Level → Type 0
    Got l = SameOn (height g n l + highs g l (height g n l)) (columns w (detail l) + columns w (detail l)) (given g n w l out) (step wrapping g n w l i v (ll_at wrapping g n w i v l))

    under : (l : Level) → Got l → SameOn (height g n l) (columns w (detail l)) (unstep g n w l (given g n w l out)) (ll_at wrapping g n w i v l)
    under l r = ll-back _ _ _ _ (shape g n l t) (ll_at wrapping g n w i v l) _ (given g n w l out) r (ll_at-fits v l) (bands-fit v f l lh)

    got3 : Got l3
    unfolding outcome
    got3 y x p q = s y x (omega (arith, rows-after g n l3 t)) (omega arith)

    got2 : Got l2
    unfolding ll3
    got2 y x p q = under l3 got3 y x (omega (arith, rows-after g n l2 t)) (omega arith)

    got1 : Got l1
    unfolding ll2
    got1 y x p q = under l2 got2 y x (omega (arith, rows-after g n l1 t)) (omega arith)

    got : (l : Level) → Got l
    got l1 = got1
    got l2 = got2
    got l3 = got3

    -- a coefficient whose row goes in as E is small
    abbrev SmallAsE : Level → ℕ → ℕ → ℕ → Type 0
    SmallAsE l c r x =
        (b : Band) (y : ℕ) → y < band_rows (height g n l) (highs g l (height g n l)) b → from_component (source g l (height g n l) b y) ≡ c → from_row (source g l (height g n l) b y) ≡ r
        → is_edge (source g l (height g n l) b y) ≡ true → nat_abs (v (detail l) i c r x) < 2 ^ 30

    -- each row of a band gives its coefficients back
    gives : (l : Level) (b : Band) (c r x : ℕ) → SmallAsE l c r x → x < columns w (detail l) → (y : ℕ) → y < band_rows (height g n l) (highs g l (height g n l)) b
        → from_component (source g l (height g n l) b y) ≡ c → from_row (source g l (height g n l) b y) ≡ r
        → back (mode l i) (source g l (height g n l) b y) (unband g n w l (given g n w l out) b y x) ≡ v (detail l) i c r x
    gives l b c r x ok q y p a z =
        let o = source g l (height g n l) b y in
        ap (back (mode l i) o) (band-back _ _ _ _ (shape g n l t) (ll_at wrapping g n w i v l) _ (given g n w l out) (got l) (bands-fit v f l) b y x p q)
        ∙ value-back (mode l i) o (v (detail l) i) x (λ e. rw (a, z) (ok b y p a z e))
        ∙ (λ j. v (detail l) i (a j) (z j) x)

    pub lifted-back : (l : Level) (b : Band) (c r x : ℕ) → SmallAsE l c r x → x < columns w (detail l) → (y : ℕ) → y < band_rows (height g n l) (highs g l (height g n l)) b
        → from_component (source g l (height g n l) b y) ≡ c → from_row (source g l (height g n l) b y) ≡ r → lifted_back g n w l i out c r x ≡ v (detail l) i c r x
    unfolding lifted_back
    lifted-back l hl c r x ok q y p a z =
        seek_found _ _ _ c r x _ (height g n l) _ (gives l hl c r x ok q) y p a z
    lifted-back l lh c r x ok q y p a z =
        seek-rest _ _ _ c r x _ (height g n l) _ (gives l hl c r x ok q)
        (seek_found _ _ _ c r x _ (highs g l (height g n l)) _ (gives l lh c r x ok q) y p a z)
    lifted-back l hh c r x ok q y p a z =
        seek-rest _ _ _ c r x _ (height g n l) _ (gives l hl c r x ok q)
        (seek-rest _ _ _ c r x _ (highs g l (height g n l)) _ (gives l lh c r x ok q)
        (seek_found _ _ _ c r x _ (highs g l (height g n l)) _ (gives l hh c r x ok q) y p a z))

    pub summed-back : (y x : ℕ) → y < height g n l1 → x < w / 16 → summed_back g n w out 0 (y + start g) x ≡ cut w16 (v base i 0 (y + start g) x)
    unfolding summed_back ll1
    summed-back y x p q =
        seek_found false (λ j. S 0 (j + start g)) (differences (unstep g n w l1 (given g n w l1 out))) 0 (y + start g) x _ (height g n l1) (pos 0)
        (λ j a b z. sums-back g (v base i 0) (unstep g n w l1 (given g n w l1 out)) (height g n l1) (w / 16) (under l1 got1) j x a q ∙ ap (λ (r : ℕ). cut w16 (v base i 0 r x)) z)
        y p refl refl

-- ---- the theorem: for every size that is accepted, plain or guarded
module _ (w H : ℕ) (a : Coded w H) where
  tall : Tall (guarded H) (stripes H)
  tall = tall-of H a.tall

  details : Coefs → Plane
  details v y = v final green 0 (chosen (guarded H) y)

  green-read : (v : Coefs) → SameOn (plane_rows (guarded H) (stripes H)) (w / 2 + w / 2) (read_plane w (planes wrapping w H v green)) (plane_of wrapping (guarded H) (stripes H) w v green)
  unfolding planes
  green-read v y x p q = read-flat (plane_rows (guarded H) (stripes H)) w _ y x p (omega (arith, a.whole))

  out-read : (v : Coefs) → AllFit v → (i : Colour) → SameOn (plane_rows (guarded H) (stripes H)) (w / 2) (out_of (guarded H) (stripes H) w (planes wrapping w H v) i) (outcome wrapping (guarded H) (stripes H) w i v)
  unfolding out_of planes details
  out-read v f green =
      l-back (plane_rows (guarded H) (stripes H)) (w / 2) (outcome wrapping (guarded H) (stripes H) w green v) (details v) _ (green-read v)
      (outcome_fits (guarded H) (stripes H) w tall a.whole green v) (λ y x. f final green 0 (chosen (guarded H) y) x)
  out-read v f red = read-flat (plane_rows (guarded H) (stripes H)) (w / 2) _
  out-read v f blue = read-flat (plane_rows (guarded H) (stripes H)) (w / 2) _

  picked-back : (v : Coefs) → AllFit v → (y x : ℕ) → y < plane_rows (guarded H) (stripes H) → x < w / 2 → picked_back (guarded H) (stripes H) w (planes wrapping w H v) green 0 (chosen (guarded H) y) x ≡ v final green 0 (chosen (guarded H) y) x
  unfolding picked_back details
  picked-back v f y x p q =
      seek_found false (λ j. S 0 (chosen (guarded H) j)) _ 0 (chosen (guarded H) y) x _ (plane_rows (guarded H) (stripes H)) (pos 0)
      (λ j b c z. d-back (plane_rows (guarded H) (stripes H)) (w / 2) (outcome wrapping (guarded H) (stripes H) w green v) (details v) _ (green-read v) (λ k l. f final green 0 (chosen (guarded H) k) l) j x b q ∙ ap (λ (r : ℕ). v final green 0 r x) z)
      y p refl refl

  -- every coefficient of a row that goes in, as it counts: as itself, or small
  pub exact : (v : Coefs) → AllFit v → (m : Group) (i : Colour) (c r x : ℕ) (q : GoesIn (guarded H) (stripes H) m i c r) → (as_e q ≡ true → nat_abs (v m i c r x) < 2 ^ 30) → x < columns w m → recover w H (planes wrapping w H v) m i c r x ≡ counted m (v m i c r x)
  unfolding recover
  exact v f m i c r x (summed j y p) ok q =
      summed-back (guarded H) (stripes H) w tall a.whole i v f _ (out-read v f i) y x p q
  exact v f m i c r x (lifted l j b y p) ok q =
      lifted-back (guarded H) (stripes H) w tall a.whole i v f _ (out-read v f i) l b c r x
      (λ d z h e k s. ok (sym (one_way (guarded H) (stripes H) tall l b d y z p h e k) ∙ s)) q y p refl refl
  exact v f m i c r x (picked y p) ok q = picked-back v f y x p q

  pub exact-ranged : (v : Coefs) → Ranged v → (m : Group) (i : Colour) (c r x : ℕ) → GoesIn (guarded H) (stripes H) m i c r → x < columns w m → recover w H (planes wrapping w H v) m i c r x ≡ counted m (v m i c r x)
  exact-ranged v f m i c r x q = exact v f.fits m i c r x q (small q)
    where
      small : {m : Group} {i : Colour} {c r : ℕ} (q : GoesIn (guarded H) (stripes H) m i c r) → as_e q ≡ true → nat_abs (v m i c r x) < 2 ^ 30
      small (summed j y p) e = absurd (false≢true e)
      small (lifted l j b y p) e = f.small l _ _ _ x
      small (picked y p) e = absurd (false≢true e)

  -- two tiles of one coded size: all coefficients of the rows that go in are the same, as they count
  abbrev pub SameCoefs : Coefs → Coefs → Type 0
  SameCoefs u v = (m : Group) (i : Colour) (c r x : ℕ) → GoesIn (guarded H) (stripes H) m i c r → x < columns w m → counted m (u m i c r x) ≡ counted m (v m i c r x)

  abbrev pub SamePlanes : Coefs → Coefs → Type 0
  SamePlanes u v = (i : Colour) → planes wrapping w H u i ≡ planes wrapping w H v i

  pub coefs-of-planes : (u v : Coefs) → Ranged u → Ranged v → SamePlanes u v → SameCoefs u v
  coefs-of-planes u v f g e m i c r x t q =
      sym (exact-ranged u f m i c r x t q) ∙ (λ j. recover w H (λ k. e k j) m i c r x) ∙ exact-ranged v g m i c r x t q

  pub planes-of-coefs : (u v : Coefs) → SameCoefs u v → SamePlanes u v
  unfolding planes
  planes-of-coefs u v e i = flat-same (plane_rows (guarded H) (stripes H)) (plane_columns w i) _ _ (by i)
    where
      out : (i : Colour) → SameOn (plane_rows (guarded H) (stripes H)) (w / 2) (outcome wrapping (guarded H) (stripes H) w i u) (outcome wrapping (guarded H) (stripes H) w i v)
      out i = outcome-like (guarded H) (stripes H) w tall a.whole i u v (λ m c r x _ t q. e m i c r x t q)

      by : (i : Colour) → SameOn (plane_rows (guarded H) (stripes H)) (plane_columns w i) (plane_of wrapping (guarded H) (stripes H) w u i) (plane_of wrapping (guarded H) (stripes H) w v i)
      by green y x p q =
          greens-same wrapping (plane_rows (guarded H) (stripes H)) (w / 2) _ _ _ _ (out green) (λ j k b d. e final green 0 (chosen (guarded H) j) k (picked j b) d) y x p (omega (arith, a.whole))
      by red y x p q = out red y x p q
      by blue y x p q = out blue y x p q

  pub one-to-one : (u v : Coefs) → Ranged u → Ranged v → SamePlanes u v ↔ SameCoefs u v
  one-to-one u v f g = (coefs-of-planes u v f g, planes-of-coefs u v)
