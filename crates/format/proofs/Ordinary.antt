-- No wrap in ordinary frames. Of an accepted stream whose selectors are all 4 at most: no sum, doubling or shift on the way from coefficients
-- to planes leaves signed 32 bits, the three levels are T.800's filter on whole numbers, and the planes lie strictly between -536,870,912 and
-- 536,870,912. Assumes nothing.
use Rattle.std.proofs.Common.{◌≡◌, refl, sym, ap, ◌∙◌, subst, Bool, List, map, ℕ, ◌≤◌, ◌<◌, arith, ℤ, pos, negsuc, nat_abs}
use Rattle.std.specs.Int.Signed.{mag}
use Rattle.wrap32.specs.Arithmetic.{wrapping, whole, number, checked}
use Rattle.wrap32.proofs.Faithful.{wrapping-faithful, checked-faithful, number_of}
use Rattle.lists.specs.Lists.{Each}
use Rattle.format.specs.Sizes.{Colour, green, Level, detail, stripes, guarded}
use Rattle.format.specs.Strip.{width, coded_height}
use Rattle.format.specs.Refusals.{Admitted}
use Rattle.format.specs.Coefficients.{coefs}
use Rattle.format.specs.Lifting.{Plane}
use Rattle.format.specs.Table.{height, hl, lh, hh}
use Rattle.format.specs.Synthesis.{bands, planes}
use Rattle.format.specs.Ordinary.{OrdinarySelectors, filtered_planes, Filtered, AtMost, Bounded}
use Rattle.format.proofs.Exact.{tall-of}
use Rattle.format.proofs.PlaceLaws.{flat-same, flat_map}
use Rattle.format.specs.Accepted.{Good}
use Rattle.format.proofs.Accepted as accept
use Rattle.format.proofs.Ranges.{each-flat, small-coefs}
use Rattle.format.proofs.Bounds.{Over, Fair, bands-are, ll-is, step_lo, step-hi, outcome-is, odds-are, plane-is}
use Rattle.format.proofs.Filtered as filter

-- ---- magnitudes
mag_less : (z : ℤ) (m : ℕ) → nat_abs z < m → mag z < m
mag_less (pos n) m h = h
mag_less (negsuc n) m h = omega arith

abs-less : (z : ℤ) (m : ℕ) → mag z < m → nat_abs z ≤ m
abs-less (pos n) m h = omega arith
abs-less (negsuc n) m h = omega arith

at_most : (h w m : ℕ) (p q : Plane) → Over wrapping h w m p q → AtMost h w m p
at_most h w m p q r y x u v = subst (λ (z : ℤ). nat_abs z ≤ m) (sym (r y x u v).same) (abs-less (q y x) m (r y x u v).below)

-- ---- the theorems
module _ (s : List ℕ) (a : Admitted s) (low : OrdinarySelectors s) where
  abbrev g : Bool
  g = guarded (coded_height s)

  abbrev n : ℕ
  n = stripes (coded_height s)

  good : Good s
  good = (accept.accepted s a.green_n a.red_n a.blue_n a.work_n a.accepted).good

  pub fair : Fair g n (width s) (coefs s)
  unfolding OrdinarySelectors
  fair = record {
    tall = tall-of (coded_height s) good.tall;
    even = good.whole;
    narrow = good.narrow;
    below = λ m i c r x e. mag_less (coefs s m i c r x) 8388600 (small-coefs s m i (λ t k. low m i t k e) c r x);
  }

  -- the planes are those of whole numbers: nothing is cut
  pub planes-are-whole : (i : Colour) → planes wrapping (width s) (coded_height s) (coefs s) i ≡ planes whole (width s) (coded_height s) (coefs s) i
  unfolding planes
  planes-are-whole i = flat-same _ _ _ _ (λ y x p q. (plane-is wrapping wrapping-faithful fair i y x p q).same)

  -- no sum, doubling or shift leaves signed 32 bits: in checked arithmetic every number of the planes is there, and is what it is
  pub none-leaves : (i : Colour) → planes checked (width s) (coded_height s) (coefs s) i ≡ map number (planes wrapping (width s) (coded_height s) (coefs s) i)
  unfolding planes
  none-leaves i =
      flat-same _ _ _ _ (λ y x p q. let z = plane-is checked checked-faithful fair i y x p q in z.same ∙ number_of _ (omega (arith, z.below)))
      ∙ flat_map number _ _ _
      ∙ ap (map number) (sym (planes-are-whole i))

  -- the planes are those of T.800's filter on whole numbers, through the three levels
  pub planes-are-filtered : (i : Colour) → planes wrapping (width s) (coded_height s) (coefs s) i ≡ filtered_planes (width s) (coded_height s) (coefs s) i
  unfolding planes filtered_planes
  planes-are-filtered i =
      planes-are-whole i ∙ flat-same _ _ _ _ (filter.plane-is g n (width s) fair.tall good.whole good.wide (coefs s) i)

  -- every number of the planes lies strictly between -536,870,912 and 536,870,912
  pub planes-are-small : (i : Colour) → Each (λ z. nat_abs z < 536870912) (planes wrapping (width s) (coded_height s) (coefs s) i)
  unfolding planes
  planes-are-small i =
      each-flat (λ z. nat_abs z < 536870912) (omega arith) _ _ _ (λ y x p q. omega (arith, at_most _ _ _ _ _ (plane-is wrapping wrapping-faithful fair i) y x p q))

  -- at each level ll, lo and hi are what the filter alone gives
  pub levels-are-filtered : (l : Level) (i : Colour) → Filtered g n (width s) i (coefs s) l
  levels-are-filtered l i =
      let like = ll-is wrapping wrapping-faithful fair i l in
      let at = filter.at-is g n (width s) fair.tall good.whole good.wide (coefs s) i l in
      let row = bands whole g l (height g n l) i (coefs s (detail l) i) in
      record {
        ll = λ y x p q. (like y x p q).same ∙ at y x p q;
        lo = λ y x p q. (step_lo wrapping wrapping-faithful fair i l _ _ like y x p q).same ∙ filter.down-at g n (width s) fair.tall good.wide l _ _ (row lh) at y x p q;
        hi = λ y x p q. (step-hi wrapping wrapping-faithful fair i l _ _ like y x p q).same ∙ filter.down-at g n (width s) fair.tall good.wide l (row hl) (row hl) (row hh) (λ _ _ _ _. refl) y x p q;
      }

  -- how large each stage is
  pub stages : Bounded g n (width s) (coefs s)
  unfolding OrdinarySelectors
  stages = record {
    coef = λ m i c r x e. small-coefs s m i (λ t k. low m i t k e) c r x;
    band = λ l i b. at_most _ _ _ _ _ (bands-are wrapping wrapping-faithful fair i l b _ _);
    ll = λ l i. at_most _ _ _ _ _ (ll-is wrapping wrapping-faithful fair i l);
    lo = λ l i. at_most _ _ _ _ _ (step_lo wrapping wrapping-faithful fair i l _ _ (ll-is wrapping wrapping-faithful fair i l));
    hi = λ l i. at_most _ _ _ _ _ (step-hi wrapping wrapping-faithful fair i l _ _ (ll-is wrapping wrapping-faithful fair i l));
    out = λ i. at_most _ _ _ _ _ (outcome-is wrapping wrapping-faithful fair i);
    odd = at_most _ _ _ _ _ (odds-are wrapping wrapping-faithful fair);
    full = at_most _ _ _ _ _ (plane-is wrapping wrapping-faithful fair green);
  }
