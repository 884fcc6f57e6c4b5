-- The rows of a level undone down the columns. Assumes nothing.
use Rattle.std.proofs.Common.{◌≡◌, refl, sym, ap, ◌∙◌, List, ⊎_elim, ℕ, ◌+◌, ◌-◌, ◌*◌, ◌≤◌, ◌<◌, min, arith, eq-eqb, ne_eqb, eqb-true, eqb, ℤ, pos, length}
use Rattle.std.proofs.lemmas.Bool.{eqb-false}
use Rattle.std.specs.Int.Signed.{shr_z}
use Rattle.wrap32.specs.Cut.{add_w, sub_w}
use Rattle.wrap32.specs.Arithmetic.{wrapping}
use Rattle.lists.proofs.Tab.{length-tab, get_or-tab, tab-same}
use Rattle.format.specs.Lifting.{Signal, Lead, low_leads, high_leads, low_places, high_places, highs_of, lows_of, added, taken, Shape}
use Rattle.format.proofs.LiftingLaws.{branch}
use Rattle.lifting.specs.Lift.{at, step_row}
use Rattle.undoing.specs.Undo.{half_back, whole_back, quarter_back}
use Rattle.undoing.specs.Down.{low_at, high_at, highs_done, highs_down, lows_down, lows_back}
use Rattle.undoing.proofs.UndoLaws.{high_is}

-- as many highs as lows, or one more
pub as_many : (h m : ℕ) → Shape high_leads h m → (h ≤ m) × (m ≤ h + 1)
as_many h m e = (⊎_elim (λ q. omega arith) (λ q. omega arith) e.1, ⊎_elim (λ q. omega arith) (λ q. omega arith) e.1)

-- a high that is not the last of one more has a low behind it
pub not_last : (h m y : ℕ) → Shape high_leads h m → y < m → (y ≡ h → ⊥) → y < h
not_last h m y e b n = omega (arith, (as_many h m e).1)

-- ---- where lows and highs stand
module _ (h m : ℕ) where
  pub low-in : (d : Lead) → Shape d h m → (y : ℕ) → y < h → low_at d y < h + m
  low-in low_leads e y b = omega arith
  low-in high_leads e y b = ⊎_elim (λ q. omega arith) (λ q. omega arith) e.1

  pub high-in : (d : Lead) → Shape d h m → (y : ℕ) → y < m → high_at d y < h + m
  high-in low_leads e y b = omega arith
  high-in high_leads e y b = ⊎_elim (λ q. omega arith) (λ q. omega arith) e.1

-- rows 2 y and 2 y + 1 are there; no more highs are undone than pairs are split
pub pair-in : (d : Lead) (h m y : ℕ) → Shape d h m → y < h → 2 * y + 1 < h + m
pair-in low_leads h m y e b = omega arith
pair-in high_leads h m y e b = omega (arith, (as_many h m e).0)

pub done-most : (d : Lead) (y : ℕ) → highs_done d y ≤ y
done-most low_leads y = omega arith
done-most high_leads y = omega arith

pub low-high : (d : Lead) (y k : ℕ) → low_at d y ≡ high_at d k → ⊥
low-high low_leads y k e = omega arith
low-high high_leads y k e = omega arith

pub high-once : (d : Lead) (y k : ℕ) → high_at d y ≡ high_at d k → y ≡ k
high-once low_leads y k e = omega arith
high-once high_leads y k e = omega arith

pub low-once : (d : Lead) (y k : ℕ) → low_at d y ≡ low_at d k → y ≡ k
low-once low_leads y k e = omega arith
low-once high_leads y k e = omega arith

pub low-place : (d : Lead) (s : Signal) (y : ℕ) → low_places d s y ≡ s (low_at d y)
low-place low_leads s y = refl
low-place high_leads s y = refl

pub high-place : (d : Lead) (s : Signal) (y : ℕ) → high_places d s y ≡ s (high_at d y)
high-place low_leads s y = refl
high-place high_leads s y = refl

-- ---- a row of each kind, from rows i and j
module _ (h n : ℕ) (f : ℕ → List ℤ) (y : ℕ) where
  pub down-led : (j : ℕ) → j ≡ min (y + 1) (h - 1) → step_row half_back n (f (2 * y + 1)) (f (2 * y)) (f (2 * j)) ≡ highs_down low_leads h n f y
  unfolding highs_down
  down-led j e = rw e (tab-same n _ _ (λ x _. sym (high_is h (λ r. at (f r) x) y)))

  pub down-first : y ≡ 0 → step_row whole_back n (f (2 * y)) (f 1) (f 1) ≡ highs_down high_leads h n f y
  unfolding highs_down highs_of added
  down-first e = rw (eq-eqb y 0 e)

  pub down-last : (i : ℕ) → i ≡ 2 * (y - 1) + 1 → (y ≡ 0 → ⊥) → y ≡ h → step_row whole_back n (f (2 * y)) (f i) (f i) ≡ highs_down high_leads h n f y
  unfolding highs_down highs_of added
  down-last i p e b = rw (p, ne_eqb y 0 e, eq-eqb y h b)

  pub down-inner : (i : ℕ) → i ≡ 2 * (y - 1) + 1 → (y ≡ 0 → ⊥) → (y ≡ h → ⊥) → step_row half_back n (f (2 * y)) (f i) (f (2 * y + 1)) ≡ highs_down high_leads h n f y
  unfolding highs_down highs_of added half_back
  down-inner i p e b = rw (p, ne_eqb y 0 e, ne_eqb y h b)

module _ (m n : ℕ) (f : ℕ → List ℤ) (y : ℕ) where
  pub up-led : (i j : ℕ) → i ≡ 2 * (y - 1) + 1 → j ≡ 2 * y + 1 → step_row quarter_back n (f (2 * y)) (f i) (f j) ≡ lows_down low_leads m n f y
  unfolding lows_down taken quarter_back
  up-led i j p q = rw (p, q)

  pub up-leading : (j : ℕ) → j ≡ min (y + 1) (m - 1) → step_row quarter_back n (f (2 * y + 1)) (f (2 * y)) (f (2 * j)) ≡ lows_down high_leads m n f y
  unfolding lows_down taken quarter_back
  up-leading j e = rw e

-- ---- rows of n, and of nothing but the rows of both bands
pub length-highs : (d : Lead) (h n : ℕ) (f : ℕ → List ℤ) (y : ℕ) → length (highs_down d h n f y) ≡ n
unfolding highs_down
length-highs d h n f y = length-tab n _

pub length-lows : (d : Lead) (m n : ℕ) (f : ℕ → List ℤ) (y : ℕ) → length (lows_down d m n f y) ≡ n
unfolding lows_down
length-lows d m n f y = length-tab n _

-- the lows on the two sides of high y, and the highs on the two sides of low y
abbrev pub LowNear : Lead → ℕ → ℕ → Type 0
LowNear low_leads y q = (y ≤ q) × (q ≤ y + 1)
LowNear high_leads y q = (y ≤ q + 1) × (q ≤ y)

abbrev pub HighNear : Lead → ℕ → ℕ → Type 0
HighNear low_leads y q = (y ≤ q + 1) × (q ≤ y)
HighNear high_leads y q = (y ≤ q) × (q ≤ y + 1)

-- what is added to a high and taken off a low is settled by those
module _ (h m : ℕ) where
  added-near : (d : Lead) (f g : Signal) → Shape d h m → (y : ℕ) → y < m → ((q : ℕ) → q < h → LowNear d y q → f q ≡ g q) → added wrapping d h f y ≡ added wrapping d h g y
  unfolding added
  added-near low_leads f g e y b p =
      let u = p y (omega arith) (omega arith, omega arith) in
      let v = p (min (y + 1) (h - 1)) (omega arith) (omega arith, omega arith) in
      λ i. shr_z (add_w (u i) (v i)) 2
  added-near high_leads f g e y b p =
      branch (eqb y 0) (f 0) (g 0) _ _ (λ a. p 0 e.0 (omega (arith, eqb-true y 0 a), omega arith)) λ a.
      branch (eqb y h) (f (y - 1)) (g (y - 1)) _ _ (λ z. p (y - 1) (omega (arith, eqb-true y h z, e.0)) (omega arith, omega arith)) λ z.
      let k : y < h = not_last h m y e b (eqb-false y h z) in
      let u = p (y - 1) (omega arith) (omega arith, omega arith) in
      let v = p y k (omega arith, omega arith) in
      λ i. shr_z (add_w (u i) (v i)) 2

  taken-near : (d : Lead) (f g : Signal) → Shape d h m → (y : ℕ) → y < h → ((q : ℕ) → q < m → HighNear d y q → f q ≡ g q) → taken wrapping d m f y ≡ taken wrapping d m g y
  unfolding taken
  taken-near low_leads f g e y b p =
      let u = p (y - 1) (omega arith) (omega arith, omega arith) in
      let v = p y (omega arith) (omega arith, omega arith) in
      λ i. shr_z (add_w (add_w (u i) (v i)) (pos 2)) 4
  taken-near high_leads f g e y b p =
      let few = (as_many h m e).0 in
      let u = p y (omega (arith, few)) (omega arith, omega arith) in
      let v = p (min (y + 1) (m - 1)) (omega (arith, few)) (omega (arith, few), omega arith) in
      λ i. shr_z (add_w (add_w (u i) (v i)) (pos 2)) 4

module _ (d : Lead) (h m n : ℕ) (e : Shape d h m) (f g : ℕ → List ℤ) (y : ℕ) where
  pub highs-down-near : y < m → f (high_at d y) ≡ g (high_at d y) → ((q : ℕ) → q < h → LowNear d y q → f (low_at d q) ≡ g (low_at d q)) → highs_down d h n f y ≡ highs_down d h n g y
  unfolding highs_down highs_of
  highs-down-near b p q =
      tab-same n _ _ λ x _.
      let own : high_places d (λ r. at (f r) x) y ≡ high_places d (λ r. at (g r) x) y =
      high-place d _ y ∙ ap (λ (l : List ℤ). at l x) p ∙ sym (high-place d _ y) in
      let lows : (k : ℕ) → k < h → LowNear d y k → low_places d (λ r. at (f r) x) k ≡ low_places d (λ r. at (g r) x) k =
      λ k z near. low-place d _ k ∙ ap (λ (l : List ℤ). at l x) (q k z near) ∙ sym (low-place d _ k) in
      λ i. sub_w (own i) (added-near h m d _ _ e y b lows i)

  -- a low of the rows f is undone as those of g are, where the highs beside it are undone
  pub lows-down-back : y < h → f (low_at d y) ≡ g (low_at d y) → ((q : ℕ) → q < m → HighNear d y q → f (high_at d q) ≡ highs_down d h n g q) → lows_down d m n f y ≡ lows_back d h m n g y
  unfolding lows_down lows_back lows_of highs_down
  lows-down-back b p q =
      tab-same n _ _ λ x a.
      let own : low_places d (λ r. at (f r) x) y ≡ low_places d (λ r. at (g r) x) y =
      low-place d _ y ∙ ap (λ (l : List ℤ). at l x) p ∙ sym (low-place d _ y) in
      let highs : (k : ℕ) → k < m → HighNear d y k → high_places d (λ r. at (f r) x) k ≡ highs_of d h (λ r. at (g r) x) k =
      λ k z near. high-place d _ k ∙ ap (λ (l : List ℤ). at l x) (q k z near) ∙ get_or-tab n _ x (pos 0) a in
      λ i. add_w (own i) (taken-near h m d _ _ e y b highs i)
