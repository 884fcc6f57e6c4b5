-- The final green is undone, and depends on no place beyond its planes. Assumes nothing.
use Rattle.std.proofs.Common.{◌∙◌, ℕ, ◌+◌, ◌-◌, ◌*◌, ◌<◌, min, arith, eqb, ℤ}
use Rattle.wrap32.specs.Arithmetic.{Arithmetic, wrapping}
use Rattle.wrap32.proofs.Laws.{add_w-fits, sub-add, shr-fits}
use Rattle.wrap32.proofs.Bias.{green-back}
use Rattle.format.specs.Lifting.{Plane, SameOn}
use Rattle.format.proofs.LiftingLaws.{weave-even, weave-odd, weave-same, branch}
use Rattle.format.proofs.LevelLaws.{Fits}
use Rattle.format.specs.Synthesis.{quarter, o_from, guess, around, odd_green, even_green, both_greens}
use Rattle.format.specs.Recovery.{o_of, d_of, l_of}

-- in any arithmetic
module _ (A : Arithmetic ℤ) (h c : ℕ) where
  pub guess-same : (d d' : Plane) → SameOn h c d d' → SameOn h c (guess A c d) (guess A c d')
  unfolding guess
  guess-same d d' s y x p q =
      let z : min (x + 1) (c - 1) < c = omega arith in
      let u : y - 1 < h = omega arith in
      λ i. quarter A (s (y - 1) x u q i) (s y x p q i) (s (y - 1) (min (x + 1) (c - 1)) u z i) (s y (min (x + 1) (c - 1)) p z i)

  pub around-same : (o o' : Plane) → SameOn h c o o' → SameOn h c (around A h o) (around A h o')
  unfolding around
  around-same o o' s y x p q =
      let z : min (y + 1) (h - 1) < h = omega arith in
      let u : x - 1 < c = omega arith in
      let v : 0 < c = omega arith in
      branch (eqb x 0) _ _ _ _
      (λ e i. A.shift (A.plus (s y 0 p v i) (s (min (y + 1) (h - 1)) 0 z v i)) 2)
      (λ e i. quarter A (s y (x - 1) p u i) (s (min (y + 1) (h - 1)) (x - 1) z u i) (s y x p q i) (s (min (y + 1) (h - 1)) x z q i))

  odd-same : (l d l' d' : Plane) → SameOn h c l l' → SameOn h c d d' → SameOn h c (odd_green A c l d) (odd_green A c l' d')
  unfolding odd_green
  odd-same l d l' d' s t y x p q = λ i. o_from A (s y x p q i) (guess-same d d' t y x p q i)

  pub greens-same : (l d l' d' : Plane) → SameOn h c l l' → SameOn h c d d' → SameOn h (c + c) (both_greens A h c l d) (both_greens A h c l' d')
  unfolding both_greens even_green
  greens-same l d l' d' s t y x p q =
      let o = odd-same l d l' d' s t in
      weave-same c c _ _ _ _ (omega arith) (omega arith)
      (λ k r i. A.plus (t y k p r i) (around-same (odd_green A c l d) (odd_green A c l' d') o y k p r i))
      (λ k r. o y k p r) x q

-- document 01's is undone
module _ (h c : ℕ) (l d p : Plane) (s : SameOn h (c + c) p (both_greens wrapping h c l d)) where
  o-back : SameOn h c (o_of p) (odd_green wrapping c l d)
  unfolding both_greens
  o-back y x a b = s y (2 * x + 1) a (omega arith) ∙ weave-odd _ _ x

  pub d-back : Fits d → SameOn h c (d_of h p) d
  unfolding d_of both_greens even_green
  d-back f y x a b =
      rw (s y (2 * x) a (omega arith) ∙ weave-even _ _ x, around-same wrapping h c (o_of p) (odd_green wrapping c l d) o-back y x a b)
      (sub-add (d y x) (around wrapping h (odd_green wrapping c l d) y x) (f y x))

  pub l-back : Fits l → Fits d → SameOn h c (l_of h c p) l
  unfolding l_of odd_green guess
  l-back f g y x a b =
      rw (o-back y x a b, guess-same wrapping h c (d_of h p) d (d-back g) y x a b)
      (green-back (l y x) (guess wrapping c d y x) (f y x) (shr-fits 4 (add_w-fits _ _)))
