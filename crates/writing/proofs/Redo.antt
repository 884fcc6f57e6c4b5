-- What was undone is lifted again: lifting, a level and the final green, each from what recovery makes of its outcome. Assumes nothing.
use Rattle.std.proofs.Common.{◌≡◌, refl, ap, ◌∙◌, ⊎_elim, ℕ, ◌+◌, ◌*◌, ◌%◌, ◌<◌, arith, eqb, ℤ, eqb-true, w32, SFits}
use Rattle.std.proofs.lemmas.Bool.{eqb-false}
use Rattle.wrap32.specs.Arithmetic.{wrapping}
use Rattle.wrap32.proofs.Laws.{of-cond, add_w-fits, sub_w-fits, sub-add, add-sub, shr-fits}
use Rattle.wrap32.proofs.Bias.{green-again}
use Rattle.format.specs.Lifting.{Signal, Plane, weave, evens, odds, Lead, low_leads, high_leads, join, low_places, high_places, taken, added, low_out, high_out, lift, highs_of, lows_of, Shape, Same, SameOn}
use Rattle.format.specs.Synthesis.{level, guess, around, odd_green, even_green, both_greens}
use Rattle.format.specs.Recovery.{lo_of, hi_of, ll_of, band_of, o_of, d_of, l_of}
use Rattle.format.proofs.LiftingLaws.{weave-same, added-same, lift-same}
use Rattle.format.proofs.GreenLaws.{around-same}

-- ---- a signal is its even and its odd places, woven
weave-again : (s : Signal) (k : ℕ) → weave (evens s) (odds s) k ≡ s k
unfolding weave
weave-again s k =
    of-cond (λ (z : ℤ). z ≡ s k) (eqb (k % 2) 0) _ _
    (λ e. ap s (omega (arith, eqb-true (k % 2) 0 e)))
    (λ e. ap s (omega (arith, eqb-false (k % 2) 0 e)))

join-again : (d : Lead) (s : Signal) (k : ℕ) → join d (low_places d s) (high_places d s) k ≡ s k
join-again low_leads s k = weave-again s k
join-again high_leads s k = weave-again s k

join-same : (n m : ℕ) (d : Lead) (a b a' b' : Signal) → Shape d n m → Same n a a' → Same m b b' → Same (n + m) (join d a b) (join d a' b')
join-same n m low_leads a b a' b' e p q k h = weave-same n m a b a' b' (omega arith) (omega arith) p q k h
join-same n m high_leads a b a' b' e p q k h =
    weave-same m n b a b' a' (⊎_elim (λ q. omega arith) (λ q. omega arith) e.1) (⊎_elim (λ q. omega arith) (λ q. omega arith) e.1) q p k (omega arith)

-- ---- n lows and m highs that were undone from a signal of 32-bit numbers, lifted again
module _ (d : Lead) (n m : ℕ) (out : Signal) (e : Shape d n m) (f : (k : ℕ) → SFits w32 (out k)) where
  low_fits : (d : Lead) (y : ℕ) → SFits w32 (low_places d out y)
  low_fits low_leads y = f _
  low_fits high_leads y = f _

  high_fits : (d : Lead) (y : ℕ) → SFits w32 (high_places d out y)
  high_fits low_leads y = f _
  high_fits high_leads y = f _

  lows-again : (y : ℕ) → low_out wrapping d m (lows_of d n m out) (highs_of d n out) y ≡ low_places d out y
  unfolding low_out lows_of
  lows-again y = sub-add (low_places d out y) (taken wrapping d m (highs_of d n out) y) (low_fits d y)

  highs-again : (y : ℕ) → y < m → high_out wrapping d n (low_out wrapping d m (lows_of d n m out) (highs_of d n out)) (highs_of d n out) y ≡ high_places d out y
  unfolding high_out highs_of
  highs-again y h =
      rw (added-same wrapping n m d (low_out wrapping d m (lows_of d n m out) (highs_of d n out)) (low_places d out) e (λ k _. lows-again k) y h)
      (add-sub (high_places d out y) (added wrapping d n (low_places d out) y) (high_fits d y))

  pub lift-again : Same (n + m) (lift wrapping d n m (lows_of d n m out) (highs_of d n out)) out
  unfolding lift
  lift-again k h = join-same n m d _ _ (low_places d out) (high_places d out) e (λ y _. lows-again y) highs-again k h ∙ join-again d out k

-- ---- a level
module _ (d : Lead) (h m w : ℕ) (e : Shape d h m) (out : Plane) (f : (y x : ℕ) → SFits w32 (out y x)) where
  lo-fits : (y x : ℕ) → SFits w32 (lo_of d h m w out y x)
  unfolding lo_of lows_of
  lo-fits y x = add_w-fits _ _

  hi-fits : (y x : ℕ) → SFits w32 (hi_of d h m w out y x)
  unfolding hi_of highs_of
  hi-fits y x = sub_w-fits _ _

  pub ll-fits : (y x : ℕ) → SFits w32 (ll_of d h m w out y x)
  unfolding ll_of lows_of
  ll-fits y x = add_w-fits _ _

  across-again : (y x : ℕ) → x < w + w → lift wrapping low_leads w w (lo_of d h m w out y) (hi_of d h m w out y) x ≡ out y x
  unfolding lo_of hi_of
  across-again y x q = lift-again low_leads w w (out y) refl (f y) x q

  pub level-again : SameOn (h + m) (w + w) (level wrapping d h m w (ll_of d h m w out) (band_of d h m w out)) out
  unfolding level ll_of band_of
  level-again y x p q =
      lift-same wrapping w w low_leads _ _ (lo_of d h m w out y) (hi_of d h m w out y) refl
      (λ k _. lift-again d h m (λ i. lo_of d h m w out i k) e (λ i. lo-fits i k) y p)
      (λ k _. lift-again d h m (λ i. hi_of d h m w out i k) e (λ i. hi-fits i k) y p)
      x q
      ∙ across-again y x q

-- ---- the final green
module _ (h c : ℕ) (p : Plane) (f : (y x : ℕ) → SFits w32 (p y x)) where
  pub l-fits : (y x : ℕ) → SFits w32 (l_of h c p y x)
  unfolding l_of
  l-fits y x = add_w-fits _ _

  guess-fits : (y x : ℕ) → SFits w32 (guess wrapping c (d_of h p) y x)
  unfolding guess
  guess-fits y x = shr-fits 4 (add_w-fits _ _)

  odd-again : (y x : ℕ) → odd_green wrapping c (l_of h c p) (d_of h p) y x ≡ o_of p y x
  unfolding odd_green l_of
  odd-again y x =
      green-again (l_of h c p y x) (guess wrapping c (d_of h p) y x) (l-fits y x) (guess-fits y x) (o_of p y x) (f y (2 * x + 1)) refl

  pub green-redone : SameOn h (c + c) (both_greens wrapping h c (l_of h c p) (d_of h p)) p
  unfolding both_greens even_green d_of
  green-redone y x a b =
      weave-same c c _ _ (evens (p y)) (odds (p y)) (omega arith) (omega arith)
      (λ k r.
      rw (around-same wrapping h c (odd_green wrapping c (l_of h c p) (d_of h p)) (o_of p) (λ i j _ _. odd-again i j) y k a r)
      (add-sub (evens (p y) k) (around wrapping h (o_of p) y k) (f y (2 * k))))
      (λ k r. odd-again y k) x b
      ∙ weave-again (p y) x
