-- A row put at its place in a packet, as the code does it: `seek` is what is left of rows that were put there one after the other. Assumes nothing.
use Rattle.std.proofs.Common.{◌≡◌, refl, sym, ap, ◌∙◌, List, ◌∷◌, ◌++◌, Bool, true, false, cond, ◌&&◌, ◌⊎◌, inl, inr, ℕ, zero, suc, ◌+◌, ◌*◌, ◌≤◌, ◌<◌, eq-or-lt_of_le, le_of_suc-le-suc, mul-le-mul_right, zero-mul, suc-mul, arith, ℤ, pos}
use Rattle.std.proofs.Common.{length, eqb, eq-eqb, ne_eqb, eqb-true}
use Rattle.std.proofs.lemmas.Bool.{eqb-false}
use Rattle.lists.specs.Lists.{tab, rows, part, put_at, laid}
use Rattle.lists.proofs.Tab.{length-tab, tab-same, tab-add}
use Rattle.lists.proofs.Rows.{length-rows}
use Rattle.lists.proofs.Part.{put_front, put-end, part-put}
use Rattle.lists.proofs.Laid.{length-laid}
use Rattle.format.specs.Lifting.{Plane}
use Rattle.format.specs.Sizes.{l1, l2, l3, Group, base, detail, final, components}
use Rattle.format.specs.Table.{Source, from_component, from_row}
use Rattle.format.specs.Coefficients.{zeros}
use Rattle.format.specs.Synthesis.{flat}
use Rattle.format.specs.Recovery.{back, seek}
use Rattle.format.specs.Numbers.{component_at, row_at, row_of, in_turn}
use Rattle.format.proofs.PlaceLaws.{flat-same}

-- ---- a row of a list of rows, replaced
abbrev pub replaced : ℕ → (ℕ → ℤ) → Plane → Plane
replaced k g p y x = cond (eqb k y) (g x) (p y x)

pub flat-put : (w : ℕ) (p : Plane) (g : ℕ → ℤ) (h k : ℕ) → k < h → put_at (flat h w p) (k * w) (tab w g) ≡ flat h w (replaced k g p)
unfolding rows
flat-put w p g zero k l = absurd (omega arith)
flat-put w p g (suc h) k l = by (eq-or-lt_of_le (le_of_suc-le-suc l)) (λ q. flat-put w p g h k q)
  where
    long : length (flat h w p) ≡ h * w
    long = length-rows w (λ y. tab w (p y)) (λ y. length-tab w (p y)) h

    by : (k ≡ h) ⊎ (k < h) → (k < h → put_at (flat h w p) (k * w) (tab w g) ≡ flat h w (replaced k g p))
        → put_at (flat h w p ++ tab w (p h)) (k * w) (tab w g) ≡ flat h w (replaced k g p) ++ tab w (replaced k g p h)
    by (inl q) f =
        let m : length (flat h w p) ≡ k * w = long ∙ ap (λ (n : ℕ). n * w) (sym q) in
        put-end (flat h w p) (tab w (p h)) (tab w g) (k * w) m (length-tab w g ∙ sym (length-tab w (p h)))
        ∙ (λ i. flat-same h w p (replaced k g p) (λ y x a b. rw (ne_eqb k y (λ z. omega arith))) i ++ tab-same w g (replaced k g p h) (λ x b. rw (eq-eqb k h q)) i)
    by (inr q) f =
        let m = mul-le-mul_right w q in
        put_front (flat h w p) (tab w (p h)) (tab w g) (k * w) (rw (length-tab w g) (omega (arith, m, long)))
        ∙ (λ i. f q i ++ tab-same w (p h) (replaced k g p h) (λ x b. rw (ne_eqb k h (λ z. omega arith))) i)

-- ---- a row of a packet has one component and row
back-row : (g : Group) (q : ℕ) → row_of g (component_at g q) (row_at g q) ≡ q
back-row base q = omega arith
back-row (detail l1) q = omega arith
back-row (detail l2) q = omega arith
back-row (detail l3) q = omega arith
back-row final q = omega arith

back-component : (g : Group) (c r : ℕ) → c < components g → component_at g (row_of g c r) ≡ c
back-component base c r h = omega arith
back-component (detail l1) c r h = omega arith
back-component (detail l2) c r h = omega arith
back-component (detail l3) c r h = omega arith
back-component final c r h = omega arith

back_in : (g : Group) (c r : ℕ) → c < components g → row_at g (row_of g c r) ≡ r
back_in base c r h = omega arith
back_in (detail l1) c r h = omega arith
back_in (detail l2) c r h = omega arith
back_in (detail l3) c r h = omega arith
back_in final c r h = omega arith

-- the row that has a place is the one whose component and row are those
same_place : (g : Group) (c r q : ℕ) → c < components g → eqb (row_of g c r) q ≡ (eqb c (component_at g q) && eqb r (row_at g q))
same_place g c r q h = by (eqb c (component_at g q)) (eqb r (row_at g q)) refl refl
  where
    by : (a b : Bool) → eqb c (component_at g q) ≡ a → eqb r (row_at g q) ≡ b → eqb (row_of g c r) q ≡ (a && b)
    by true true e f = eq-eqb (row_of g c r) q ((λ i. row_of g (eqb-true c (component_at g q) e i) (eqb-true r (row_at g q) f i)) ∙ back-row g q)
    by true false e f = ne_eqb (row_of g c r) q (λ z. eqb-false r (row_at g q) f (sym (back_in g c r h) ∙ ap (row_at g) z))
    by false b e f = ne_eqb (row_of g c r) q (λ z. eqb-false c (component_at g q) e (sym (back-component g c r h) ∙ ap (component_at g) z))

-- row n of a band put at its place: one step of `seek`. So rows of hh, then of lh, then of hl, each from the first on, leave `lifted_back`
pub seek-put : (g : Group) (w h : ℕ) (odd : Bool) (src : ℕ → Source) (p : Plane) (n : ℕ) (rest : ℕ → Plane) → from_component (src n) < components g → row_of g (from_component (src n)) (from_row (src n)) < h
    → put_at (flat h w (in_turn g (λ c r x. seek odd src p c r x n (rest c r x)))) (row_of g (from_component (src n)) (from_row (src n)) * w) (tab w (λ x. back odd (src n) (p n x)))
    ≡ flat h w (in_turn g (λ c r x. seek odd src p c r x (suc n) (rest c r x)))
unfolding seek
seek-put g w h odd src p n rest few low =
    flat-put w _ (λ x. back odd (src n) (p n x)) h (row_of g (from_component (src n)) (from_row (src n))) low
    ∙ flat-same h w _ _ (λ q x a b. ap (λ (t : Bool). cond t (back odd (src n) (p n x)) (seek odd src p (component_at g q) (row_at g q) x n (rest (component_at g q) (row_at g q) x))) (same_place g (from_component (src n)) (from_row (src n)) q few))

-- rows of a band put at their places one after the other, into a packet of h rows of w that stands from `at` on
module _ (g : Group) (w h at : ℕ) (odd : Bool) (src : ℕ → Source) (p : Plane) (rest : ℕ → Plane) (l : List ℤ) (room : at + h * w ≤ length l) where
  abbrev pub place_of : ℕ → ℕ
  place_of y = at + row_of g (from_component (src y)) (from_row (src y)) * w

  abbrev pub line_back : ℕ → List ℤ
  line_back y = tab w (λ x. back odd (src y) (p y x))

  place-room : (y : ℕ) → row_of g (from_component (src y)) (from_row (src y)) < h → place_of y + w ≤ at + h * w
  place-room y low = let m = mul-le-mul_right w low in omega (arith, m)

  pub laid-seek : (n : ℕ) → ((y : ℕ) → y < n → from_component (src y) < components g) → ((y : ℕ) → y < n → row_of g (from_component (src y)) (from_row (src y)) < h)
      → part l at (h * w) ≡ flat h w (in_turn g rest)
      → part (laid place_of line_back l n) at (h * w) ≡ flat h w (in_turn g (λ c r x. seek odd src p c r x n (rest c r x)))
  unfolding laid seek
  laid-seek zero few low e = e
  laid-seek (suc n) few low e =
      let q = row_of g (from_component (src n)) (from_row (src n)) in
      let long : length (laid place_of line_back l n) ≡ length l = length-laid place_of line_back l w n (λ y. length-tab w _) (λ y b. omega (arith, place-room y (low y (omega (arith, b))), room)) n (omega arith) in
      let in-it = place-room n (low n (omega arith)) in
      part-put (laid place_of line_back l n) at (h * w) (q * w) (line_back n) (omega (arith, long, room)) (omega (arith, length-tab w (λ x. back odd (src n) (p n x)), in-it))
      ∙ ap (λ (t : List ℤ). put_at t (q * w) (line_back n)) (laid-seek n (λ y b. few y (omega (arith, b))) (λ y b. low y (omega (arith, b))) e)
      ∙ seek-put g w h odd src p n rest (few n (omega arith)) (low n (omega arith))

-- rows of a packet of one component stand one behind the other
pub row-alone : (g : Group) (r : ℕ) → components g ≡ 1 → row_of g 0 r ≡ r
row-alone base r e = omega arith
row-alone (detail l) r e = absurd (omega (arith, e))
row-alone final r e = omega arith

-- zeros are rows of zeros
tab-zeros : (n : ℕ) → tab n (λ _. pos 0) ≡ zeros n
unfolding tab
tab-zeros zero = refl
tab-zeros (suc n) = ap (λ (l : List ℤ). pos 0 ∷ l) (tab-zeros n)

flat-tab : (w h : ℕ) → tab (h * w) (λ _. pos 0) ≡ flat h w (λ _ _. pos 0)
unfolding rows tab
flat-tab w zero = ap (λ (n : ℕ). tab n (λ _. pos 0)) (zero-mul w)
flat-tab w (suc h) =
    ap (λ (n : ℕ). tab n (λ _. pos 0)) (suc-mul h w)
    ∙ tab-add (h * w) w (λ _. pos 0)
    ∙ ap (λ (l : List ℤ). l ++ tab w (λ _. pos 0)) (flat-tab w h)

pub flat-zeros : (w h : ℕ) → zeros (h * w) ≡ flat h w (λ _ _. pos 0)
flat-zeros w h = sym (tab-zeros (h * w)) ∙ flat-tab w h
