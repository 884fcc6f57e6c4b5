-- Every definition of Lifting and Synthesis, walked once for any arithmetic that is faithful within 32 bits: from coefficients below 8,388,600
-- it gives what whole numbers give, and each stage lies below its bound. Assumes nothing.
use Rattle.std.proofs.Common.{◌≡◌, refl, Bool, true, ⊎_elim, ℕ, zero, suc, ◌+◌, ◌-◌, ◌*◌, ◌/◌, ◌%◌, ◌^◌, ◌≤◌, ◌<◌, min, arith, eqb, eqb-true, ℤ, pos, ◌+ℤ◌, w16}
use Rattle.std.proofs.lemmas.Bool.{eqb-false}
use Rattle.std.specs.Int.Signed.{mag, shr_z}
use Rattle.wrap32.specs.Cut.{cut}
use Rattle.wrap32.specs.Arithmetic.{Arithmetic, whole}
use Rattle.wrap32.proofs.Laws.{cut_fits}
use Rattle.wrap32.proofs.Faithful.{Faithful, Is, weaker, of_is, cond-is, plus-is, minus_is, plus64-is, minus64-is, half_is, quarter-is, cut-is, edge-is}
use Rattle.format.specs.Sizes.{Colour, green, red, blue, Level, l1, l2, l3, Group, base, detail, final, present, columns, plane_rows, plane_columns, Tall}
use Rattle.format.specs.Coefficients.{Coefs}
use Rattle.format.specs.Lifting.{SignalOf, PlaneOf, Signal, Plane, weave, Lead, low_leads, high_leads, join, taken, added, low_out, high_out, lift, Shape}
use Rattle.format.specs.Table.{start, height, lead, highs, Source, S, E, Band, hl, lh, hh, source, band_rows, mode, chosen}
use Rattle.format.specs.Synthesis.{sum_of, down, level, value, bands, step, ll1, ll2, ll3, ll_at, outcome, guess, around, odd_green, even_green, both_greens, plane_of}
use Rattle.format.specs.Ordinary.{coef_most, band_most, ll_most, lo_most, hi_most}
use Rattle.format.proofs.TableLaws.{Straight, straight, straight-1, straight-hl, straight-lh}
use Rattle.format.proofs.Exact.{shape, rows-after}

module _ {N : Type 0} (A : Arithmetic N) where
  -- n numbers, and h rows of w, are those whole numbers, which lie below m
  abbrev On : ℕ → ℕ → SignalOf N → Signal → Type 0
  On n m f g = (k : ℕ) → k < n → Is A m (f k) (g k)

  abbrev pub Over : ℕ → ℕ → ℕ → PlaneOf N → Plane → Type 0
  Over h w m p q = (y x : ℕ) → y < h → x < w → Is A m (p y x) (q y x)

  pub weave-is : (n m b : ℕ) (f g : SignalOf N) (f' g' : Signal) → m ≤ n → n ≤ m + 1 → On n b f f' → On m b g g' → On (n + m) b (weave f g) (weave f' g')
  unfolding weave
  weave-is n m b f g f' g' h k p q j l =
      cond-is A (eqb (j % 2) 0) _ _ _ _ (λ e. p (j / 2) (omega (arith, eqb-true (j % 2) 0 e))) (λ e. q (j / 2) (omega (arith, eqb-false (j % 2) 0 e)))

  join_is : (d : Lead) (n m b : ℕ) (f g : SignalOf N) (f' g' : Signal) → Shape d n m → On n b f f' → On m b g g' → On (n + m) b (join d f g) (join d f' g')
  join_is low_leads n m b f g f' g' e p q k h = weave-is n m b f g f' g' (omega arith) (omega arith) p q k h
  join_is high_leads n m b f g f' g' e p q k h =
      weave-is m n b g f g' f' (⊎_elim (λ r. omega arith) (λ r. omega arith) e.1) (⊎_elim (λ r. omega arith) (λ r. omega arith) e.1) q p k (omega arith)

-- lows below a and highs below b: what is taken off a low lies below a quarter of 2 b + 6, and the results below `grown a b`
abbrev grown : ℕ → ℕ → ℕ
grown a b = b + (a + (b + b + 6) / 4)

-- a level's ll below a, its bands below e: lo, then hi, then the outcome
abbrev leveled : ℕ → (Band → ℕ) → ℕ
leveled a e = grown (grown a (e lh)) (grown (e hl) (e hh))

module _ {N : Type 0} (A : Arithmetic N) (ok : Faithful A) where
  -- ---- lifting n lows below a and m highs below b
  module _ (d : Lead) (n m a b : ℕ) (lo hi : SignalOf N) (lo' hi' : Signal) (e : Shape d n m) (p : a ≤ 2 ^ 29) (q : b ≤ 2 ^ 29) (r : On A n a lo lo') (s : On A m b hi hi') where
    taken_is : On A n ((b + b + 6) / 4) (taken A d m hi) (taken whole d m hi')
    unfolding taken
    taken_is y h = by d e
      where
        sides : (j k : ℕ) → j < m → k < m → Is A ((b + b + 6) / 4) (A.shift (A.plus (A.plus (hi j) (hi k)) (A.of (pos 2))) 4) (shr_z (hi' j +ℤ hi' k +ℤ pos 2) 4)
        sides j k u v =
            weaker A (quarter-is A ok (plus-is A ok (plus-is A ok (s j u) (s k v) (omega arith)) (of_is A 3 (pos 2) (omega arith)) (omega arith)) (omega arith)) (omega arith)

        by : (d : Lead) → Shape d n m → Is A ((b + b + 6) / 4) (taken A d m hi y) (taken whole d m hi' y)
        by low_leads e = sides (y - 1) y (omega arith) (omega arith)
        by high_leads e =
            let u : y < m = ⊎_elim (λ z. omega arith) (λ z. omega arith) e.1 in
            sides y (min (y + 1) (m - 1)) u (omega arith)

    low-is : On A n (a + (b + b + 6) / 4) (low_out A d m lo hi) (low_out whole d m lo' hi')
    unfolding low_out
    low-is y h = minus_is A ok (r y h) (taken_is y h) (omega arith)

    added_is : On A m (a + (b + b + 6) / 4) (added A d n (low_out A d m lo hi)) (added whole d n (low_out whole d m lo' hi'))
    unfolding added
    added_is y h = by d e low-is
      where
        mean : (f : SignalOf N) (f' : Signal) → On A n (a + (b + b + 6) / 4) f f' → (j k : ℕ) → j < n → k < n → Is A (a + (b + b + 6) / 4) (A.shift (A.plus (f j) (f k)) 2) (shr_z (f' j +ℤ f' k) 2)
        mean f f' l j k u v = weaker A (half_is A ok (plus-is A ok (l j u) (l k v) (omega arith)) (omega arith)) (omega arith)

        by : (d : Lead) → Shape d n m → {f : SignalOf N} {f' : Signal} → On A n (a + (b + b + 6) / 4) f f' → Is A (a + (b + b + 6) / 4) (added A d n f y) (added whole d n f' y)
        by low_leads e {f} {f'} l = mean f f' l y (min (y + 1) (n - 1)) (omega arith) (omega arith)
        by high_leads e {f} {f'} l =
            let k : y < n + 1 = ⊎_elim (λ z. omega arith) (λ z. omega arith) e.1 in
            cond-is A (eqb y 0) _ _ _ _ (λ _. l 0 e.0) λ u.
            cond-is A (eqb y n) _ _ _ _ (λ v. l (y - 1) (omega (arith, eqb-true y n v, e.0))) λ v.
            let z : y < n = omega (arith, eqb-false y n v) in
            mean f f' l (y - 1) y (omega arith) z

    high_is : On A m (grown a b) (high_out A d n (low_out A d m lo hi) hi) (high_out whole d n (low_out whole d m lo' hi') hi')
    unfolding high_out
    high_is y h = plus-is A ok (s y h) (added_is y h) (omega arith)

    lift-is : On A (n + m) (grown a b) (lift A d n m lo hi) (lift whole d n m lo' hi')
    unfolding lift
    lift-is = join_is A d n m (grown a b) _ _ _ _ e (λ k h. weaker A (low-is k h) (omega arith)) high_is

  -- ---- a level of h rows of w
  module _ (d : Lead) (h m w a : ℕ) (e : Band → ℕ) (ll : PlaneOf N) (b : Band → PlaneOf N) (ll' : Plane) (b' : Band → Plane) (f : Shape d h m) (p : leveled a e ≤ 2 ^ 29) (r : Over A h w a ll ll') (s : (k : Band) → Over A (band_rows h m k) w (e k) (b k) (b' k)) where
    lo-is : Over A (h + m) w (grown a (e lh)) (down A d h m ll (b lh)) (down whole d h m ll' (b' lh))
    lo-is y x u v = lift-is d h m a (e lh) _ _ _ _ f (omega arith) (omega arith) (λ k z. r k x z v) (λ k z. s lh k x z v) y u

    hi-is : Over A (h + m) w (grown (e hl) (e hh)) (down A d h m (b hl) (b hh)) (down whole d h m (b' hl) (b' hh))
    hi-is y x u v = lift-is d h m (e hl) (e hh) _ _ _ _ f (omega arith) (omega arith) (λ k z. s hl k x z v) (λ k z. s hh k x z v) y u

    level-is : Over A (h + m) (w + w) (leveled a e) (level A d h m w ll b) (level whole d h m w ll' b')
    unfolding level
    level-is y x u v =
        lift-is low_leads w w (grown a (e lh)) (grown (e hl) (e hh)) _ _ _ _ refl (omega arith) (omega arith) (λ k z. lo-is y k u z) (λ k z. hi-is y k u z) x v

  -- ---- band 0: a running sum of k numbers of 16 bits
  sum_is : (f : Signal) → ((k : ℕ) → mag (f k) < 2 ^ 15) → (k : ℕ) → k ≤ 4095 → Is A (k * 2 ^ 15 + 1) (sum_of A f k) (sum_of whole f k)
  unfolding sum_of
  sum_is f b zero h = of_is A 1 (pos 0) (omega arith)
  sum_is f b (suc k) h = weaker A (plus-is A ok (sum_is f b k (omega arith)) (of_is A (2 ^ 15) (f k) (b k)) (omega arith)) (omega arith)

  -- ---- the final green of h rows, from averages below a and details below 8,388,600
  module _ (h c a : ℕ) (l d : PlaneOf N) (l' d' : Plane) (p : a ≤ 2 ^ 28 + 2 ^ 27) (r : Over A h c a l l') (s : Over A h c coef_most d d') where
    four_is : (m : ℕ) → m ≤ 2 ^ 29 → {t u v w : N} {t' u' v' w' : ℤ} → Is A m t t' → Is A m u u' → Is A m v v' → Is A m w w' → Is A m (A.shift (A.plus (A.plus (A.plus t u) v) w) 4) (shr_z (t' +ℤ u' +ℤ v' +ℤ w') 4)
    four_is m b t u v w = weaker A (quarter-is A ok (plus-is A ok (plus-is A ok (plus-is A ok t u (omega arith)) v (omega arith)) w (omega arith)) (omega arith)) (omega arith)

    guess-is : Over A h c coef_most (guess A c d) (guess whole c d')
    unfolding guess
    guess-is y x u v =
        let z : min (x + 1) (c - 1) < c = omega arith in
        let k : y - 1 < h = omega arith in
        four_is coef_most (omega arith) (s (y - 1) x k v) (s y x u v) (s (y - 1) (min (x + 1) (c - 1)) k z) (s y (min (x + 1) (c - 1)) u z)

    odd_is : Over A h c (a + 4194301) (odd_green A c l d) (odd_green whole c l' d')
    unfolding odd_green
    odd_is y x u v =
        let z = half_is A ok (minus64-is A ok (plus64-is A ok (r y x u v) (r y x u v) (omega arith)) (guess-is y x u v) (omega arith)) (omega arith) in
        weaker A (cut-is A ok z (omega arith)) (omega arith)

    around-is : Over A h c (a + 4194301) (around A h (odd_green A c l d)) (around whole h (odd_green whole c l' d'))
    unfolding around
    around-is y x u v =
        let z : min (y + 1) (h - 1) < h = omega arith in
        let k : x - 1 < c = omega arith in
        let o : 0 < c = omega arith in
        cond-is A (eqb x 0) _ _ _ _
        (λ _. weaker A (half_is A ok (plus-is A ok (odd_is y 0 u o) (odd_is (min (y + 1) (h - 1)) 0 z o) (omega arith)) (omega arith)) (omega arith))
        (λ _. four_is (a + 4194301) (omega arith) (odd_is y (x - 1) u k) (odd_is (min (y + 1) (h - 1)) (x - 1) z k) (odd_is y x u v) (odd_is (min (y + 1) (h - 1)) x z v))

    greens-is : Over A h (c + c) (a + 12582901) (both_greens A h c l d) (both_greens whole h c l' d')
    unfolding both_greens even_green
    greens-is y x u v =
        weave-is A c c (a + 12582901) _ _ _ _ (omega arith) (omega arith)
        (λ k z. weaker A (plus-is A ok (s y k u z) (around-is y k u z) (omega arith)) (omega arith))
        (λ k z. weaker A (odd_is y k u z) (omega arith)) x v

  -- ---- a row of a band
  row_is : (odd : Bool) (v : ℕ → Plane) (x : ℕ) → ((c r : ℕ) → mag (v c r x) < coef_most) → (s : Source) → Is A 16777202 (value A odd s v x) (value whole odd s v x)
  row_is odd v x f (S c r) = of_is A 16777202 (v c r x) (omega (arith, f c r))
  row_is odd v x f (E c r) = edge-is A ok odd coef_most (v c r x) (f c r) (omega arith)

  straight-is : (odd : Bool) (v : ℕ → Plane) (x : ℕ) → ((c r : ℕ) → mag (v c r x) < coef_most) → (s : Source) → Straight s → Is A coef_most (value A odd s v x) (value whole odd s v x)
  straight-is odd v x f s (straight c r) = of_is A coef_most (v c r x) (f c r)

  band-is : (odd : Bool) (v : ℕ → Plane) (x : ℕ) → ((c r : ℕ) → mag (v c r x) < coef_most) → (g : Bool) (l : Level) (h : ℕ) (b : Band) (y : ℕ) → Is A (band_most l b) (value A odd (source g l h b y) v x) (value whole odd (source g l h b y) v x)
  band-is odd v x f g l h hl y = straight-is odd v x f _ (straight-hl g l h y)
  band-is odd v x f g l h lh y = straight-is odd v x f _ (straight-lh g l h y)
  band-is odd v x f g l1 h hh y = straight-is odd v x f _ (straight-1 g h hh y)
  band-is odd v x f g l2 h hh y = row_is odd v x f (source g l2 h hh y)
  band-is odd v x f g l3 h hh y = row_is odd v x f (source g l3 h hh y)

-- ---- a tile of a coded size, with coefficients below 8,388,600 in the packets that it has
pub record Fair (g : Bool) (n w : ℕ) (v : Coefs) : Type 0 where
  pub tall : Tall g n
  pub even : w % 16 ≡ 0
  pub narrow : w < 2 ^ 16
  pub below : (m : Group) (i : Colour) (c r x : ℕ) → present m i ≡ true → mag (v m i c r x) < coef_most

bounds-fit : (l : Level) → leveled (ll_most l) (band_most l) ≤ 2 ^ 29
bounds-fit l1 = omega arith
bounds-fit l2 = omega arith
bounds-fit l3 = omega arith

module _ {N : Type 0} (A : Arithmetic N) (ok : Faithful A) {g : Bool} {n w : ℕ} {v : Coefs} (z : Fair g n w v) where
  pub bands-are : (i : Colour) (l : Level) (b : Band) (h w : ℕ) → Over A h w (band_most l b) (bands A g l (height g n l) i (v (detail l) i) b) (bands whole g l (height g n l) i (v (detail l) i) b)
  bands-are i l b h w y x p q = band-is A ok (mode l i) (v (detail l) i) x (λ c r. z.below (detail l) i c r x refl) g l (height g n l) b y

  module _ (i : Colour) (l : Level) (ll : PlaneOf N) (ll' : Plane) (r : Over A (height g n l) (columns w (detail l)) (ll_most l) ll ll') where
    pub step_lo : Over A (height g n l + highs g l (height g n l)) (columns w (detail l)) (lo_most l)
        (down A (lead g l) (height g n l) (highs g l (height g n l)) ll (bands A g l (height g n l) i (v (detail l) i) lh))
        (down whole (lead g l) (height g n l) (highs g l (height g n l)) ll' (bands whole g l (height g n l) i (v (detail l) i) lh))
    step_lo y x p q = weaker A (lo-is A ok _ _ _ _ (ll_most l) (band_most l) _ _ _ _ (shape g n l z.tall) (bounds-fit l) r (λ b. bands-are i l b _ _) y x p q) (by l)
      where
        by : (l : Level) → grown (ll_most l) (band_most l lh) ≤ lo_most l
        by l1 = omega arith
        by l2 = omega arith
        by l3 = omega arith

    pub step-hi : Over A (height g n l + highs g l (height g n l)) (columns w (detail l)) (hi_most l)
        (down A (lead g l) (height g n l) (highs g l (height g n l)) (bands A g l (height g n l) i (v (detail l) i) hl) (bands A g l (height g n l) i (v (detail l) i) hh))
        (down whole (lead g l) (height g n l) (highs g l (height g n l)) (bands whole g l (height g n l) i (v (detail l) i) hl) (bands whole g l (height g n l) i (v (detail l) i) hh))
    step-hi y x p q = weaker A (hi-is A ok _ _ _ _ (ll_most l) (band_most l) _ _ _ _ (shape g n l z.tall) (bounds-fit l) r (λ b. bands-are i l b _ _) y x p q) (by l)
      where
        by : (l : Level) → grown (band_most l hl) (band_most l hh) ≤ hi_most l
        by l1 = omega arith
        by l2 = omega arith
        by l3 = omega arith

    step_is : Over A (height g n l + highs g l (height g n l)) (columns w (detail l) + columns w (detail l)) (leveled (ll_most l) (band_most l)) (step A g n w l i v ll) (step whole g n w l i v ll')
    step_is = level-is A ok _ _ _ _ (ll_most l) (band_most l) _ _ _ _ (shape g n l z.tall) (bounds-fit l) r (λ b. bands-are i l b _ _)

  ll1-is : (i : Colour) → Over A (height g n l1) (w / 16) (ll_most l1) (ll1 A g n w i v) (ll1 whole g n w i v)
  unfolding ll1
  ll1-is i y x p q =
      weaker A (sum_is A ok (λ j. cut w16 (v base i 0 (y + start g) j)) (λ j. (cut_fits w16 _).sfits) (suc x) (omega (arith, z.narrow))) (omega (arith, z.narrow))

  ll2-is : (i : Colour) → Over A (height g n l2) (w / 8) (ll_most l2) (ll2 A g n w i v) (ll2 whole g n w i v)
  unfolding ll2
  ll2-is i y x p q = weaker A (step_is i l1 _ _ (ll1-is i) y x (omega (arith, rows-after g n l1 z.tall)) (omega (arith, z.even))) (omega arith)

  ll3-is : (i : Colour) → Over A (height g n l3) (w / 4) (ll_most l3) (ll3 A g n w i v) (ll3 whole g n w i v)
  unfolding ll3
  ll3-is i y x p q = weaker A (step_is i l2 _ _ (ll2-is i) y x (omega (arith, rows-after g n l2 z.tall)) (omega (arith, z.even))) (omega arith)

  pub ll-is : (i : Colour) (l : Level) → Over A (height g n l) (columns w (detail l)) (ll_most l) (ll_at A g n w i v l) (ll_at whole g n w i v l)
  ll-is i l1 = ll1-is i
  ll-is i l2 = ll2-is i
  ll-is i l3 = ll3-is i

  pub outcome-is : (i : Colour) → Over A (plane_rows g n) (w / 2) 304054131 (outcome A g n w i v) (outcome whole g n w i v)
  unfolding outcome
  outcome-is i y x p q = weaker A (step_is i l3 _ _ (ll3-is i) y x (omega (arith, rows-after g n l3 z.tall)) (omega (arith, z.even))) (omega arith)

  pub details-are : (h c : ℕ) → Over A h c coef_most (λ y x. A.of (v final green 0 (chosen g y) x)) (λ y. v final green 0 (chosen g y))
  details-are h c y x p q = of_is A coef_most _ (z.below final green 0 (chosen g y) x refl)

  pub odds-are : Over A (plane_rows g n) (w / 2) 308248432 (odd_green A (w / 2) (outcome A g n w green v) (λ y x. A.of (v final green 0 (chosen g y) x))) (odd_green whole (w / 2) (outcome whole g n w green v) (λ y. v final green 0 (chosen g y)))
  odds-are = odd_is A ok (plane_rows g n) (w / 2) 304054131 _ _ _ _ (omega arith) (outcome-is green) (details-are _ _)

  pub plane-is : (i : Colour) → Over A (plane_rows g n) (plane_columns w i) 316637032 (plane_of A g n w v i) (plane_of whole g n w v i)
  plane-is green y x p q = greens-is A ok (plane_rows g n) (w / 2) 304054131 _ _ _ _ (omega arith) (outcome-is green) (details-are _ _) y x p (omega (arith, z.even))
  plane-is red y x p q = weaker A (outcome-is red y x p q) (omega arith)
  plane-is blue y x p q = weaker A (outcome-is blue y x p q) (omega arith)
