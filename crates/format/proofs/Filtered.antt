-- The three levels on whole numbers are T.800's filter and nothing else, whatever the coefficients. Assumes nothing.
use Rattle.std.proofs.Common.{◌≡◌, refl, ◌∙◌, Bool, true, false, ℕ, ◌+◌, ◌/◌, ◌%◌, ◌≤◌, ◌<◌, arith}
use Rattle.wrap32.specs.Arithmetic.{whole}
use Rattle.format.specs.Sizes.{Colour, green, red, blue, Level, l1, l2, l3, detail, columns, plane_rows, plane_columns, Tall}
use Rattle.format.specs.Coefficients.{Coefs}
use Rattle.format.specs.Lifting.{Plane, weave, Lead, low_leads, high_leads, Shape, SameOn}
use Rattle.format.specs.Table.{height, lead, highs, Band, hl, lh, hh}
use Rattle.format.specs.Synthesis.{down, level, bands, step, ll1, ll2, ll3, ll_at, outcome, plane_of}
use Rattle.format.specs.T800.{filter, Starts}
use Rattle.format.specs.Ordinary.{first_place, filtered_down, filtered_level, filtered_step, filtered_at, filtered_out, filtered_plane}
use Rattle.format.proofs.LiftingLaws.{lift-same}
use Rattle.format.proofs.LevelLaws.{level-same}
use Rattle.format.proofs.GreenLaws.{greens-same}
use Rattle.format.proofs.T800Laws.{whole-is-filter}
use Rattle.format.proofs.Exact.{shape, rows-after}

starts : (d : Lead) → Starts d (first_place d)
starts low_leads = refl
starts high_leads = refl

-- ---- a level of h rows of w
module _ (d : Lead) (h m w : ℕ) (some : 0 < h) (wide : 0 < w) (e : Shape d h m) where
  pub down_is : (low high : Plane) (y x : ℕ) → y < h + m → down whole d h m low high y x ≡ filtered_down d h m low high y x
  down_is low high y x p = whole-is-filter d h m (first_place d) (λ j. low j x) (λ j. high j x) some e (starts d) y p

  pub level-is : (ll : Plane) (b : Band → Plane) → SameOn (h + m) (w + w) (level whole d h m w ll b) (filtered_level d h m w ll b)
  unfolding level filtered_level
  level-is ll b y x p q =
      whole-is-filter low_leads w w 0 _ _ wide refl refl x q
      ∙ (λ i. filter 0 (w + w) (weave (λ c. down_is ll (b lh) y c p i) (λ c. down_is (b hl) (b hh) y c p i)) x)

-- ---- through the three levels
height-some : (g : Bool) (n : ℕ) (l : Level) → Tall g n → 0 < height g n l
height-some false n l1 t = omega arith
height-some false n l2 t = omega arith
height-some false n l3 t = omega arith
height-some true n l1 t = omega arith
height-some true n l2 t = omega arith
height-some true n l3 t = omega arith

columns-some : (w : ℕ) (l : Level) → 16 ≤ w → 0 < columns w (detail l)
columns-some w l1 h = omega arith
columns-some w l2 h = omega arith
columns-some w l3 h = omega arith

module _ (g : Bool) (n w : ℕ) (t : Tall g n) (wide : 16 ≤ w) (l : Level) where
  -- lo and hi, from lows that are the same where they are read
  pub down-at : (low low' high : Plane) → SameOn (height g n l) (columns w (detail l)) low low'
      → SameOn (height g n l + highs g l (height g n l)) (columns w (detail l)) (down whole (lead g l) (height g n l) (highs g l (height g n l)) low high) (filtered_down (lead g l) (height g n l) (highs g l (height g n l)) low' high)
  down-at low low' high s y x p q =
      lift-same whole _ _ (lead g l) _ _ _ (λ j. high j x) (shape g n l t) (λ j z. s j x z q) (λ _ _. refl) y p
      ∙ down_is _ _ _ _ (height-some g n l t) (columns-some w l wide) (shape g n l t) low' high y x p

module _ (g : Bool) (n w : ℕ) (t : Tall g n) (k : w % 16 ≡ 0) (wide : 16 ≤ w) (v : Coefs) where
  step_is : (i : Colour) (l : Level) (ll ll' : Plane) → SameOn (height g n l) (columns w (detail l)) ll ll' → SameOn (height g n l + highs g l (height g n l)) (columns w (detail l) + columns w (detail l)) (step whole g n w l i v ll) (filtered_step g n w i v l ll')
  step_is i l ll ll' s y x p q =
      level-same _ _ _ _ (shape g n l t) ll _ whole ll' (bands whole g l (height g n l) i (v (detail l) i)) s (λ b _ _ _ _. refl) y x p q
      ∙ level-is _ _ _ _ (height-some g n l t) (columns-some w l wide) (shape g n l t) ll' _ y x p q

  first-is : (i : Colour) → SameOn (height g n l1) (w / 16) (ll1 whole g n w i v) (filtered_at g n w i v l1)
  unfolding ll1
  first-is i y x p q = refl

  second_is : (i : Colour) → SameOn (height g n l2) (w / 8) (ll2 whole g n w i v) (filtered_at g n w i v l2)
  unfolding ll2
  second_is i y x p q = step_is i l1 _ _ (first-is i) y x (omega (arith, rows-after g n l1 t)) (omega arith)

  third-is : (i : Colour) → SameOn (height g n l3) (w / 4) (ll3 whole g n w i v) (filtered_at g n w i v l3)
  unfolding ll3
  third-is i y x p q = step_is i l2 _ _ (second_is i) y x (omega (arith, rows-after g n l2 t)) (omega arith)

  pub at-is : (i : Colour) (l : Level) → SameOn (height g n l) (columns w (detail l)) (ll_at whole g n w i v l) (filtered_at g n w i v l)
  at-is i l1 = first-is i
  at-is i l2 = second_is i
  at-is i l3 = third-is i

  out-is : (i : Colour) → SameOn (plane_rows g n) (w / 2) (outcome whole g n w i v) (filtered_out g n w i v)
  unfolding outcome filtered_out
  out-is i y x p q = step_is i l3 _ _ (third-is i) y x (omega (arith, rows-after g n l3 t)) (omega arith)

  pub plane-is : (i : Colour) → SameOn (plane_rows g n) (plane_columns w i) (plane_of whole g n w v i) (filtered_plane g n w v i)
  plane-is green y x p q = greens-same whole (plane_rows g n) (w / 2) _ _ _ _ (out-is green) (λ _ _ _ _. refl) y x p (omega (arith, k))
  plane-is red y x p q = out-is red y x p q
  plane-is blue y x p q = out-is blue y x p q
