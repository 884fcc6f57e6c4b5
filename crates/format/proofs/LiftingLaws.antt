-- Lifting is undone, and depends on no place beyond its bands. Assumes nothing.
use Rattle.std.proofs.Common.{◌≡◌, refl, ◌∙◌, Bool, true, false, cond, ⊎_elim, ℕ, ◌+◌, ◌-◌, ◌*◌, ◌/◌, ◌%◌, ◌≤◌, ◌<◌, min, arith, eqb, eqb-true, ℤ, pos, w32, SFits}
use Rattle.std.proofs.lemmas.Bool.{eqb-false}
use Rattle.wrap32.specs.Cut.{add_w, sub_w}
use Rattle.wrap32.specs.Arithmetic.{Arithmetic, wrapping}
use Rattle.wrap32.proofs.Laws.{of-cond, add_w-fits, sub_w-fits, sub-add, add-sub}
use Rattle.format.specs.Lifting.{Signal, weave, Lead, low_leads, high_leads, join, low_places, high_places, taken, added, low_out, high_out, lift, highs_of, lows_of, Shape, Same}

pub weave-even : (a b : Signal) (y : ℕ) → weave a b (2 * y) ≡ a y
unfolding weave
weave-even a b y =
    let e : (2 * y) % 2 ≡ 0 = omega arith in
    let h : (2 * y) / 2 ≡ y = omega arith in
    rw (e, h)

pub weave-odd : (a b : Signal) (y : ℕ) → weave a b (2 * y + 1) ≡ b y
unfolding weave
weave-odd a b y =
    let e : (2 * y + 1) % 2 ≡ 1 = omega arith in
    let h : (2 * y + 1) / 2 ≡ y = omega arith in
    rw (e, h)

pub weave-fits : (a b : Signal) → ((k : ℕ) → SFits w32 (a k)) → ((k : ℕ) → SFits w32 (b k)) → (k : ℕ) → SFits w32 (weave a b k)
unfolding weave
weave-fits a b f g k = of-cond (SFits w32) (eqb (k % 2) 0) (a (k / 2)) (b (k / 2)) (λ _. f (k / 2)) (λ _. g (k / 2))

-- two tests of one number with equal outcomes where they can be met
pub branch : (b : Bool) (x x' y y' : ℤ) → (b ≡ true → x ≡ x') → (b ≡ false → y ≡ y') → cond b x y ≡ cond b x' y'
branch true x x' y y' p q = p refl
branch false x x' y y' p q = q refl

pub weave-same : (n m : ℕ) (a b a' b' : Signal) → m ≤ n → n ≤ m + 1 → Same n a a' → Same m b b' → Same (n + m) (weave a b) (weave a' b')
unfolding weave
weave-same n m a b a' b' h g p q k l =
    branch (eqb (k % 2) 0) (a (k / 2)) (a' (k / 2)) (b (k / 2)) (b' (k / 2))
    (λ e. p (k / 2) (omega (arith, eqb-true (k % 2) 0 e)))
    (λ e. q (k / 2) (omega (arith, eqb-false (k % 2) 0 e)))

join-low : (d : Lead) (a b : Signal) (y : ℕ) → low_places d (join d a b) y ≡ a y
join-low low_leads a b y = weave-even a b y
join-low high_leads a b y = weave-odd b a y

join-high : (d : Lead) (a b : Signal) (y : ℕ) → high_places d (join d a b) y ≡ b y
join-high low_leads a b y = weave-odd a b y
join-high high_leads a b y = weave-even b a y

module _ (n m : ℕ) where
  -- the places of n lows and m highs lie in n + m
  low-places : (d : Lead) (s t : Signal) → Shape d n m → Same (n + m) s t → Same n (low_places d s) (low_places d t)
  low-places low_leads s t e p y h = p (2 * y) (omega arith)
  low-places high_leads s t e p y h = p (2 * y + 1) (⊎_elim (λ q. omega arith) (λ q. omega arith) e.1)

  high-places : (d : Lead) (s t : Signal) → Shape d n m → Same (n + m) s t → Same m (high_places d s) (high_places d t)
  high-places low_leads s t e p y h = p (2 * y + 1) (omega arith)
  high-places high_leads s t e p y h = p (2 * y) (⊎_elim (λ q. omega arith) (λ q. omega arith) e.1)

-- in any arithmetic
module _ (A : Arithmetic ℤ) (n m : ℕ) where
  -- what is taken off a low is settled by the m highs, what is added to a high by the n results
  taken-same : (d : Lead) (f g : Signal) → Shape d n m → Same m f g → Same n (taken A d m f) (taken A d m g)
  unfolding taken
  taken-same low_leads f g e p y h =
      let a = p (y - 1) (omega arith) in
      let b = p y (omega arith) in
      λ i. A.shift (A.plus (A.plus (a i) (b i)) (A.of (pos 2))) 4
  taken-same high_leads f g e p y h =
      let k : y < m = ⊎_elim (λ q. omega arith) (λ q. omega arith) e.1 in
      let a = p y k in
      let b = p (min (y + 1) (m - 1)) (omega arith) in
      λ i. A.shift (A.plus (A.plus (a i) (b i)) (A.of (pos 2))) 4

  pub added-same : (d : Lead) (f g : Signal) → Shape d n m → Same n f g → Same m (added A d n f) (added A d n g)
  unfolding added
  added-same low_leads f g e p y h =
      let a = p y (omega arith) in
      let b = p (min (y + 1) (n - 1)) (omega arith) in
      λ i. A.shift (A.plus (a i) (b i)) 2
  added-same high_leads f g e p y h =
      let k : y < n + 1 = ⊎_elim (λ q. omega arith) (λ q. omega arith) e.1 in
      branch (eqb y 0) (f 0) (g 0) _ _ (λ _. p 0 e.0) λ a.
      branch (eqb y n) (f (y - 1)) (g (y - 1)) _ _ (λ b. p (y - 1) (omega (arith, eqb-true y n b, e.0))) λ b.
      let z : y < n = omega (arith, eqb-false y n b) in
      let u = p (y - 1) (omega arith) in
      λ i. A.shift (A.plus (u i) (p y z i)) 2

  -- lifting depends on no other place
  pub lift-same : (d : Lead) (lo hi lo' hi' : Signal) → Shape d n m → Same n lo lo' → Same m hi hi' → Same (n + m) (lift A d n m lo hi) (lift A d n m lo' hi')
  unfolding lift low_out high_out
  lift-same d lo hi lo' hi' e p q = by d e lows highs
    where
      lows : Same n (low_out A d m lo hi) (low_out A d m lo' hi')
      lows y h = λ i. A.minus (p y h i) (taken-same d hi hi' e q y h i)

      highs : Same m (high_out A d n (low_out A d m lo hi) hi) (high_out A d n (low_out A d m lo' hi') hi')
      highs y h = λ i. A.plus (q y h i) (added-same d (low_out A d m lo hi) (low_out A d m lo' hi') e lows y h i)

      by : (d : Lead) {a b a' b' : Signal} → Shape d n m → Same n a a' → Same m b b' → Same (n + m) (join d a b) (join d a' b')
      by low_leads {a} {b} {a'} {b'} e p q k h = weave-same n m a b a' b' (omega arith) (omega arith) p q k h
      by high_leads {a} {b} {a'} {b'} e p q k h =
          weave-same m n b a b' a' (⊎_elim (λ q. omega arith) (λ q. omega arith) e.1) (⊎_elim (λ q. omega arith) (λ q. omega arith) e.1) q p k (omega arith)

-- and so do the highs and the lows undone
module _ (n m : ℕ) (d : Lead) (s t : Signal) (e : Shape d n m) (p : Same (n + m) s t) where
  pub highs-same : Same m (highs_of d n s) (highs_of d n t)
  unfolding highs_of
  highs-same y h = λ i. sub_w (high-places n m d s t e p y h i) (added-same wrapping n m d _ _ e (low-places n m d s t e p) y h i)

  pub lows-same : Same n (lows_of d n m s) (lows_of d n m t)
  unfolding lows_of
  lows-same y h = λ i. add_w (low-places n m d s t e p y h i) (taken-same wrapping n m d _ _ e highs-same y h i)

pub lift-fits : (d : Lead) (n m : ℕ) (lo hi : Signal) (k : ℕ) → SFits w32 (lift wrapping d n m lo hi k)
unfolding lift low_out high_out
lift-fits low_leads n m lo hi k = weave-fits _ _ (λ y. sub_w-fits _ _) (λ y. add_w-fits _ _) k
lift-fits high_leads n m lo hi k = weave-fits _ _ (λ y. add_w-fits _ _) (λ y. sub_w-fits _ _) k

-- whatever has the results on its n + m places gives the highs and the lows back
module _ (d : Lead) (n m : ℕ) (lo hi out : Signal) (e : Shape d n m) (s : Same (n + m) out (lift wrapping d n m lo hi)) where
  low-res : Same n (low_places d out) (low_out wrapping d m lo hi)
  unfolding lift
  low-res y h = low-places n m d out _ e s y h ∙ join-low d _ _ y

  high-res : Same m (high_places d out) (high_out wrapping d n (low_out wrapping d m lo hi) hi)
  unfolding lift
  high-res y h = high-places n m d out _ e s y h ∙ join-high d _ _ y

  pub undo-highs : ((k : ℕ) → k < m → SFits w32 (hi k)) → Same m (highs_of d n out) hi
  unfolding highs_of high_out
  undo-highs f y h =
      rw (high-res y h, added-same wrapping n m d (low_places d out) (low_out wrapping d m lo hi) e low-res y h)
      (sub-add (hi y) (added wrapping d n (low_out wrapping d m lo hi) y) (f y h))

  pub undo-lows : ((k : ℕ) → k < n → SFits w32 (lo k)) → ((k : ℕ) → k < m → SFits w32 (hi k)) → Same n (lows_of d n m out) lo
  unfolding lows_of low_out
  undo-lows g f y h =
      rw (low-res y h, taken-same wrapping n m d (highs_of d n out) hi e (undo-highs f) y h)
      (add-sub (lo y) (taken wrapping d m hi y) (g y h))
