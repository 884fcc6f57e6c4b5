-- No wrap in ordinary frames, in the order in which the code adds. Assumes nothing.
use Rattle.std.proofs.Common.{◌≡◌, sym, ap, ◌∙◌, subst, List, map, ℕ, ◌+◌, ◌-◌, ◌*◌, ◌/◌, ◌^◌, ◌≤◌, ◌<◌, min, arith, eqb, ℤ, pos, ◌+ℤ◌, ◌-ℤ◌, w32}
use lib.IntN.{+ℤ_comm, +ℤ_assoc}
use lib.Signed.{mag, shr_z}
use Rattle.wrap32.specs.Cut.{sub_w}
use Rattle.wrap32.specs.Arithmetic.{Arithmetic, wrapping, whole, number, within, checked}
use Rattle.wrap32.proofs.Laws.{add_w-plain, sub_w-plain, cut-id, mag-add, mag-diff, mag-half, mag-quarter}
use Rattle.wrap32.proofs.Faithful.{Faithful, checked-faithful, number_of, Is, weaker, of_is, cond-is, plus-is, minus_is, half_is, quarter-is}
use Rattle.format.specs.Sizes.{green, final, stripes, guarded, plane_rows_of}
use Rattle.format.specs.Strip.{width, coded_height}
use Rattle.format.specs.Coefficients.{coefs}
use Rattle.format.specs.Lifting.{PlaneOf, Plane}
use Rattle.format.specs.Table.{chosen}
use Rattle.format.specs.Synthesis.{outcome, guess, around, odd_green, even_green, both_greens, flat, planes}
use Rattle.format.specs.Refusals.{Admitted}
use Rattle.format.specs.Ordinary.{OrdinarySelectors}
use Rattle.format.proofs.PlaceLaws.{flat-same, flat_map}
use Rattle.format.proofs.Bounds.{Over, weave-is, outcome-is, details-are}
use Rattle.format.proofs.Ordinary.{fair, planes-are-whole}
use Rattle.green.specs.Green.{quarter_of, right}
use Rattle.green.specs.Order.{odds_by, evens_by, greens_by}
use Rattle.green.proofs.GreenLaws.{green-half}

-- ---- in whole numbers the order does not matter
pairs-rows : (a b c d : ℤ) → (a +ℤ c) +ℤ (b +ℤ d) ≡ a +ℤ b +ℤ c +ℤ d
pairs-rows a b c d =
    +ℤ_assoc a c (b +ℤ d)
    ∙ ap (λ (z : ℤ). a +ℤ z) (sym (+ℤ_assoc c b d) ∙ ap (λ (z : ℤ). z +ℤ d) (+ℤ_comm c b) ∙ +ℤ_assoc b c d)
    ∙ sym (+ℤ_assoc a b (c +ℤ d))
    ∙ sym (+ℤ_assoc (a +ℤ b) c d)

-- l less half of p + 1 is half of 2 l - p
half-whole : (l s : ℤ) → mag l < 2 ^ 29 → mag s < 2 ^ 29 → l -ℤ shr_z (shr_z s 4 +ℤ pos 1) 2 ≡ shr_z ((l +ℤ l) -ℤ shr_z s 4) 2
half-whole l s h k =
    let p = shr_z s 4 in
    let q = mag-quarter s (2 ^ 29) k in
    let one = mag-add p (pos 1) (2 ^ 27) 2 (omega (arith, q)) (omega arith) in
    let up = mag-half (p +ℤ pos 1) (2 ^ 27 + 2) one in
    let less = mag-diff l (shr_z (p +ℤ pos 1) 2) (2 ^ 29) (2 ^ 27) h (omega (arith, up)) in
    let two = mag-add l l (2 ^ 29) (2 ^ 29) h h in
    let down = mag-half ((l +ℤ l) -ℤ p) (2 ^ 30 + 2 ^ 27) (mag-diff (l +ℤ l) p (2 ^ 30) (2 ^ 27) two (omega (arith, q))) in
    sym (sub_w-plain l (shr_z (p +ℤ pos 1) 2) (omega (arith, less)))
    ∙ ap (λ (z : ℤ). sub_w l (shr_z z 2)) (sym (add_w-plain p (pos 1) (omega (arith, one))))
    ∙ green-half l s (omega arith) (omega arith)
    ∙ cut-id w32 (shr_z ((l +ℤ l) -ℤ p) 2) (omega (arith, down))

module _ {N : Type 0} (A : Arithmetic N) (ok : Faithful A) where
  into : {m : ℕ} {a : N} {x y : ℤ} → Is A m a x → x ≡ y → Is A m a y
  into {m} {a} p e = subst (Is A m a) e p

  four-by : (m : ℕ) → m ≤ 2 ^ 29 → {t u v w : N} {t' u' v' w' : ℤ} → Is A m t t' → Is A m u u' → Is A m v v' → Is A m w w' → Is A m (quarter_of A t u v w) (shr_z ((t' +ℤ u') +ℤ (v' +ℤ w')) 4)
  unfolding quarter_of
  four-by m b t u v w =
      weaker A (quarter-is A ok (plus-is A ok (plus-is A ok t u (omega arith)) (plus-is A ok v w (omega arith)) (omega arith)) (omega arith)) (omega arith)

  module _ (h c a : ℕ) (l d : PlaneOf N) (l' d' : Plane) (p : a ≤ 2 ^ 28 + 2 ^ 27) (r : Over A h c a l l') (s : Over A h c 8388600 d d') where
    -- the sum of the four details beside row y and column x
    abbrev beside : Plane
    beside y x = d' (y - 1) x +ℤ d' y x +ℤ d' (y - 1) (right c x) +ℤ d' y (right c x)

    sum-small : (y x : ℕ) → y < h → x < c → mag (beside y x) < 2 ^ 29
    sum-small y x u v =
        let z : right c x < c = omega arith in
        let k : y - 1 < h = omega arith in
        let two = mag-add (d' (y - 1) x) (d' y x) 8388600 8388600 (s (y - 1) x k v).below (s y x u v).below in
        let three = mag-add (d' (y - 1) x +ℤ d' y x) (d' (y - 1) (right c x)) (2 * 8388600) 8388600 two (s (y - 1) (right c x) k z).below in
        let four = mag-add (d' (y - 1) x +ℤ d' y x +ℤ d' (y - 1) (right c x)) (d' y (right c x)) (3 * 8388600) 8388600 three (s y (right c x) u z).below in
        omega (arith, four)

    odds-by : Over A h c (a + 4194301) (odds_by A c l d) (odd_green whole c l' d')
    unfolding odds_by odd_green guess
    odds-by y x u v =
        let z : right c x < c = omega arith in
        let k : y - 1 < h = omega arith in
        let q = four-by 8388600 (omega arith) (s (y - 1) x k v) (s (y - 1) (right c x) k z) (s y x u v) (s y (right c x) u z) in
        into (weaker A (minus_is A ok (r y x u v) (half_is A ok (plus-is A ok q (of_is A 2 (pos 1) (omega arith)) (omega arith)) (omega arith)) (omega arith)) (omega arith))
        (ap (λ (j : ℤ). l' y x -ℤ shr_z (shr_z j 4 +ℤ pos 1) 2) (pairs-rows (d' (y - 1) x) (d' y x) (d' (y - 1) (right c x)) (d' y (right c x)))
        ∙ half-whole (l' y x) (beside y x) (omega (arith, (r y x u v).below)) (sum-small y x u v))

    evens-by : Over A h c (a + 12582901) (evens_by A h (odds_by A c l d) d) (even_green whole h (odd_green whole c l' d') d')
    unfolding evens_by even_green around
    evens-by y x u v =
        let z : min (y + 1) (h - 1) < h = omega arith in
        let k : x - 1 < c = omega arith in
        let n : 0 < c = omega arith in
        let o = odd_green whole c l' d' in
        weaker A
        (plus-is A ok (s y x u v)
        (cond-is A {m = a + 4194301} (eqb x 0) _ _ _ _
        (λ _. weaker A (half_is A ok (plus-is A ok (odds-by y 0 u n) (odds-by (min (y + 1) (h - 1)) 0 z n) (omega arith)) (omega arith)) (omega arith))
        (λ _.
        into (four-by (a + 4194301) (omega arith) (odds-by y (x - 1) u k) (odds-by (min (y + 1) (h - 1)) (x - 1) z k) (odds-by y x u v) (odds-by (min (y + 1) (h - 1)) x z v))
        (ap (λ (j : ℤ). shr_z j 4) (sym (+ℤ_assoc (o y (x - 1) +ℤ o (min (y + 1) (h - 1)) (x - 1)) (o y x) (o (min (y + 1) (h - 1)) x))))))
        (omega arith))
        (omega arith)

    greens-by : Over A h (c + c) (a + 12582901) (greens_by A h c l d) (both_greens whole h c l' d')
    unfolding greens_by both_greens
    greens-by y x u v =
        weave-is A c c (a + 12582901) _ _ _ _ (omega arith) (omega arith) (λ k z. evens-by y k u z) (λ k z. weaker A (odds-by y k u z) (omega arith)) x v

-- of an ordinary stream: from the averages and the details in checked arithmetic, in the code's order, every number of green is there
pub none-leaves : (s : List ℕ) (a : Admitted s) (low : OrdinarySelectors s)
    → flat (plane_rows_of (coded_height s)) (width s)
    (greens_by checked (plane_rows_of (coded_height s)) (width s / 2)
    (outcome checked (guarded (coded_height s)) (stripes (coded_height s)) (width s) green (coefs s))
    (λ y x. within (coefs s final green 0 (chosen (guarded (coded_height s)) y) x)))
    ≡ map number (planes wrapping (width s) (coded_height s) (coefs s) green)
unfolding planes
none-leaves s a low =
    let f = fair s a low in
    flat-same _ _ _ _
    (λ y x p q.
    let z = greens-by checked checked-faithful (plane_rows_of (coded_height s)) (width s / 2) 304054131 _ _ _ _ (omega arith) (outcome-is checked checked-faithful f green) (details-are checked checked-faithful f _ _) y x p (omega (arith, f.even)) in
    z.same ∙ number_of _ (omega (arith, z.below)))
    ∙ flat_map number _ _ _
    ∙ ap (map number) (sym (planes-are-whole s a low green))
