-- A row's bits are decoded to the row, and the reader stands right past them, its status 0. Assumes nothing.
use Rattle.std.proofs.Common.{◌≡◌, refl, sym, ap, ◌∙◌, List, [], ◌∷◌, ◌++◌, append_assoc, Bool, true, false, cond, ⊎_elim, ℕ, zero, suc, ◌+◌, ◌-◌, ◌*◌, ◌/◌, ◌^◌, ◌≤◌, ◌<◌, arith, ℤ, pos, negsuc, nat_abs, take, take_at, leb, ltb, eqb, le-leb, lt-ltb, eq-eqb, ne_eqb, eqb-true, ltb-true}
use Rattle.std.proofs.lemmas.Bool.{lt-leb, eqb-false}
use Rattle.format.specs.Writing.{number_bits, unary_bits, update_bits, run_bits, sign_bits, group_width, zero_groups, value_bits, signs_bits, next_bits, after_run, groups_bits, padded, row_bits}
use Rattle.format.proofs.BitLaws.{le-or-lt}
use Rattle.wrap32.proofs.Laws.{of-cond}
use Rattle.lists.specs.Lists.{tab}
use Rattle.lists.proofs.Tab.{length-tab, tab-add, tab-same}
use Rattle.format.specs.Lifting.{Signal}
use Rattle.format.specs.Reader.{Reader, Taken, update_of}
use Rattle.format.specs.Coefficients.{value_of, sign_of, Four, four_of, signs_of, width_next, group_of, width_after, zeros_of, Part, zeros, zeros_part, group_part, row_step, row_from, row_of}
use Rattle.encoding.specs.Numbers.{Small}
use Rattle.encoding.proofs.Widths.{largest, width-most, holds, held-0, held-1, held-2, held-3, run-most, run-some, run_ends}
use Rattle.writing.proofs.Standing.{At, past, past-both, past-none, at_left, at_right}
use Rattle.writing.proofs.ReadBack.{got, read_number, read-bit, read-unary, update-back, run-back}

-- ---- a sign
module _ (s : List ℕ) where
  pub sign-back : (z : ℤ) (r : Reader) → At s r (sign_bits z) → sign_of s (value_of (nat_abs z) 0) r ≡ record { value = z; reader = past r (sign_bits z) }
  unfolding sign_of value_of
  sign-back (pos zero) r h = rw (past-none r)
  sign-back (pos (suc n)) r h = rw (lt-ltb 0 (suc n) (omega arith), read-bit s r 0 (omega arith) h)
  sign-back (negsuc n) r h = rw (lt-ltb 0 (suc n) (omega arith), read-bit s r 1 (omega arith) h)

  -- ---- four magnitudes, four signs
  module _ (n a b c d : ℕ) (p : a < 2 ^ n) (q : b < 2 ^ n) (t : c < 2 ^ n) (u : d < 2 ^ n) (r : Reader) where
    A : List ℕ
    A = number_bits n a

    B : List ℕ
    B = number_bits n b

    C : List ℕ
    C = number_bits n c

    D : List ℕ
    D = number_bits n d

    pub four-back : At s r (number_bits n a ++ (number_bits n b ++ (number_bits n c ++ number_bits n d)))
        → four_of s r n ≡ record { a = a; b = b; c = c; d = d; reader = past r (number_bits n a ++ (number_bits n b ++ (number_bits n c ++ number_bits n d))) }
    unfolding four_of A B C D
    four-back h =
        let h1 = at_right s r A (B ++ (C ++ D)) h in
        let h2 = at_right s (past r A) B (C ++ D) h1 in
        let h3 = at_right s (past (past r A) B) C D h2 in
        let e : past (past (past (past r A) B) C) D ≡ past r (A ++ (B ++ (C ++ D))) =
        past-both (past (past r A) B) C D ∙ past-both (past r A) B (C ++ D) ∙ past-both r A (B ++ (C ++ D)) in
        rw (read_number s r n a p (at_left s r A (B ++ (C ++ D)) h), read_number s (past r A) n b q (at_left s (past r A) B (C ++ D) h1), read_number s (past (past r A) B) n c t (at_left s (past (past r A) B) C D h2), read_number s (past (past (past r A) B) C) n d u h3, e)

  module _ (x y z w : ℤ) (r : Reader) where
    X : List ℕ
    X = sign_bits x

    Y : List ℕ
    Y = sign_bits y

    Z : List ℕ
    Z = sign_bits z

    W : List ℕ
    W = sign_bits w

    pub signs-back : (q : Four) → q.a ≡ nat_abs x → q.b ≡ nat_abs y → q.c ≡ nat_abs z → q.d ≡ nat_abs w → At s r (sign_bits x ++ (sign_bits y ++ (sign_bits z ++ sign_bits w)))
        → signs_of s 0 q r ≡ record { a = x; b = y; c = z; d = w; reader = past r (sign_bits x ++ (sign_bits y ++ (sign_bits z ++ sign_bits w))) }
    unfolding signs_of X Y Z W
    signs-back q i j k l h =
        let h1 = at_right s r X (Y ++ (Z ++ W)) h in
        let h2 = at_right s (past r X) Y (Z ++ W) h1 in
        let h3 = at_right s (past (past r X) Y) Z W h2 in
        let e : past (past (past (past r X) Y) Z) W ≡ past r (X ++ (Y ++ (Z ++ W))) =
        past-both (past (past r X) Y) Z W ∙ past-both (past r X) Y (Z ++ W) ∙ past-both r X (Y ++ (Z ++ W)) in
        rw (i, j, k, l, sign-back x r (at_left s r X (Y ++ (Z ++ W)) h), sign-back y (past r X) (at_left s (past r X) Y (Z ++ W) h1), sign-back z (past (past r X) Y) (at_left s (past (past r X) Y) Z W h2), sign-back w (past (past (past r X) Y) Z) h3, e)

-- ---- groups and runs of zeros
pub none_of : (z : ℤ) → nat_abs z ≡ 0 → z ≡ pos 0
none_of (pos n) e = ap pos e
none_of (negsuc n) e = absurd (omega arith)

module _ (f : Signal) (small : Small f) (j : ℕ) where
  pub zero-group : group_width f j ≡ 0 → (x : ℕ) → x < 4 → f (4 * j + x) ≡ pos 0
  zero-group e x h =
      let l : largest f small j < 2 ^ 0 = rw e at (holds f small j) in
      by x h (omega arith) (omega arith) (omega arith) (omega arith)
    where
      by : (x : ℕ) → x < 4 → nat_abs (f (4 * j)) ≡ 0 → nat_abs (f (4 * j + 1)) ≡ 0 → nat_abs (f (4 * j + 2)) ≡ 0 → nat_abs (f (4 * j + 3)) ≡ 0 → f (4 * j + x) ≡ pos 0
      by zero h a b c d = let e : 4 * j + 0 ≡ 4 * j = omega arith in ap f e ∙ none_of (f (4 * j)) a
      by (suc zero) h a b c d = none_of _ b
      by (suc (suc zero)) h a b c d = none_of _ c
      by (suc (suc (suc zero))) h a b c d = none_of _ d
      by (suc (suc (suc (suc x)))) h a b c d = absurd (omega arith)

-- ---- a run goes as far as it can
module _ (f : Signal) where
  pub run-zero : Small f → (j g x : ℕ) → x < 4 * zero_groups f j g → f (4 * j + x) ≡ pos 0
  unfolding zero_groups
  run-zero small j zero x = λ h. absurd (omega arith)
  run-zero small j (suc g) x =
      of-cond (λ (k : ℕ). x < 4 * k → f (4 * j + x) ≡ pos 0) (eqb (group_width f j) 0) _ _
      (λ t h.
      ⊎_elim
      (λ (l : 4 ≤ x). let e : 4 * j + x ≡ 4 * suc j + (x - 4) = omega arith in rw e (run-zero small (suc j) g (x - 4) (omega arith)))
      (λ (l : x < 4). zero-group f small j (eqb-true (group_width f j) 0 t) x l)
      (le-or-lt 4 x))
      (λ t h. absurd (omega arith))

-- ---- the numbers of g groups from group j on
abbrev pub numbers : Signal → ℕ → ℕ → List ℤ
numbers f j g = tab (4 * g) (λ x. f (4 * j + x))

pub tab-zero : (n : ℕ) (f : ℕ → ℤ) → ((x : ℕ) → x < n → f x ≡ pos 0) → tab n f ≡ zeros n
unfolding tab
tab-zero zero f h = refl
tab-zero (suc n) f h = λ i. h 0 (omega arith) i ∷ tab-zero n (λ k. f (suc k)) (λ k l. h (suc k) (omega arith)) i

split-numbers : (f : Signal) (j g k : ℕ) → k ≤ g → tab (4 * k) (λ x. f (4 * j + x)) ++ numbers f (j + k) (g - k) ≡ numbers f j g
split-numbers f j g k h =
    let e : 4 * k + 4 * (g - k) ≡ 4 * g = omega arith in
    ap (λ (l : List ℤ). tab (4 * k) (λ x. f (4 * j + x)) ++ l) (tab-same (4 * (g - k)) _ _ (λ x _. let m : 4 * (j + k) + x ≡ 4 * j + (4 * k + x) = omega arith in ap f m))
    ∙ sym (tab-add (4 * k) (4 * (g - k)) (λ x. f (4 * j + x)))
    ∙ ap (λ (n : ℕ). tab n (λ x. f (4 * j + x))) e

first-four : (f : Signal) (j : ℕ) → f (4 * j) ∷ f (4 * j + 1) ∷ f (4 * j + 2) ∷ f (4 * j + 3) ∷ [] ≡ tab (4 * 1) (λ x. f (4 * j + x))
unfolding tab
first-four f j = let e : 4 * j ≡ 4 * j + 0 = omega arith in ap (λ (k : ℕ). f k ∷ f (4 * j + 1) ∷ f (4 * j + 2) ∷ f (4 * j + 3) ∷ []) e

-- ---- one turn
pub part-is : (l l' : List ℤ) (r r' : Reader) → l ≡ l' → r ≡ r' → ◌≡◌ {A = Part} (record { values = l; reader = r }) (record { values = l'; reader = r' })
part-is l l' r r' a b = cc

module _ (s : List ℕ) (f : Signal) (small : Small f) where
  -- the width that is known after group j
  abbrev next_width : ℕ → ℕ → ℕ
  next_width j g = cond (leb g 1) (group_width f j) (group_width f (j + 1))

  next-back : (j g : ℕ) (r : Reader) → At s r (next_bits f j g) → width_next s g (group_width f j) r ≡ got (next_width j g) r (next_bits f j g)
  unfolding width_next next_bits
  next-back j g r = by (leb g 1)
    where
      by : (b : Bool) → At s r (cond b [] (update_bits (group_width f j) (group_width f (j + 1))))
          → cond b (record { value = group_width f j; reader = r }) (update_of s r (group_width f j))
          ≡ got (cond b (group_width f j) (group_width f (j + 1))) r (cond b [] (update_bits (group_width f j) (group_width f (j + 1))))
      by true h = rw (past-none r)
      by false h = update-back s r (group_width f j) (group_width f (j + 1)) h

  group-back : (j g : ℕ) (r : Reader) → At s r (value_bits f (group_width f j) j ++ (next_bits f j g ++ signs_bits f j))
      → group_of s 0 g (record { value = group_width f j; reader = r })
      ≡ record { values = f (4 * j) ∷ f (4 * j + 1) ∷ f (4 * j + 2) ∷ f (4 * j + 3) ∷ []; width = next_width j g; reader = past r (value_bits f (group_width f j) j ++ (next_bits f j g ++ signs_bits f j)) }
  unfolding group_of
  group-back j g r h =
      let M = value_bits f (group_width f j) j in
      let N = next_bits f j g in
      let G = signs_bits f j in
      let h1 = at_right s r M (N ++ G) h in
      let h2 = at_right s (past r M) N G h1 in
      let Q : Four = record { a = nat_abs (f (4 * j)); b = nat_abs (f (4 * j + 1)); c = nat_abs (f (4 * j + 2)); d = nat_abs (f (4 * j + 3)); reader = past r M } in
      let e : past (past (past r M) N) G ≡ past r (M ++ (N ++ G)) = past-both (past r M) N G ∙ past-both r M (N ++ G) in
      let four = four-back s (group_width f j) _ _ _ _ (held-0 f small j) (held-1 f small j) (held-2 f small j) (held-3 f small j) r (at_left s r M (N ++ G) h) in
      let next = next-back j g (past r M) (at_left s (past r M) N G h1) in
      let signs = signs-back s (f (4 * j)) (f (4 * j + 1)) (f (4 * j + 2)) (f (4 * j + 3)) (past (past r M) N) Q refl refl refl refl h2 in
      rw (four, next, signs, e)

  -- ---- g groups from group j on
  none_left : (turns j : ℕ) → groups_bits f turns j 0 ≡ []
  unfolding groups_bits
  none_left zero j = refl
  none_left (suc turns) j = refl

  row-none : (turns : ℕ) (t : Taken) → row_from s 0 turns 0 t ≡ record { values = []; reader = t.reader }
  unfolding row_from row_step
  row-none zero t = refl
  row-none (suc turns) t = refl

  abbrev Decodes : ℕ → Type 0
  Decodes turns =
      (j g w : ℕ) (r : Reader) → g ≤ turns → g < 2 ^ 64 → (0 < g → w ≡ group_width f j) → At s r (groups_bits f turns j g)
      → row_from s 0 turns g (record { value = w; reader = r }) ≡ record { values = numbers f j g; reader = past r (groups_bits f turns j g) }

  -- a group that is not zero
  group-turn : (turns j g : ℕ) (r : Reader) → Decodes turns → 0 < g → g ≤ suc turns → g < 2 ^ 64
      → At s r (value_bits f (group_width f j) j ++ (next_bits f j g ++ (signs_bits f j ++ groups_bits f turns (j + 1) (g - 1))))
      → group_part (row_from s 0 turns) g (group_of s 0 g (record { value = group_width f j; reader = r }))
      ≡ record { values = numbers f j g; reader = past r (value_bits f (group_width f j) j ++ (next_bits f j g ++ (signs_bits f j ++ groups_bits f turns (j + 1) (g - 1)))) }
  group-turn turns j g r rest some most fits h =
      let M = value_bits f (group_width f j) j in
      let N = next_bits f j g in
      let G = signs_bits f j in
      let T = groups_bits f turns (j + 1) (g - 1) in
      let same : (M ++ (N ++ G)) ++ T ≡ M ++ (N ++ (G ++ T)) = append_assoc M (N ++ G) T ∙ ap (λ (l : List ℕ). M ++ l) (append_assoc N G T) in
      let h' : At s r ((M ++ (N ++ G)) ++ T) = rw same h in
      let width : 0 < g - 1 → next_width j g ≡ group_width f (j + 1) = λ k. rw (lt-leb g 1 (omega arith)) in
      rw (group-back j g r (at_left s r (M ++ (N ++ G)) T h'), rest (j + 1) (g - 1) (next_width j g) (past r (M ++ (N ++ G))) (omega arith) (omega arith) width (at_right s r (M ++ (N ++ G)) T h'))
      (part-is _ _ _ _
      (ap (λ (l : List ℤ). l ++ numbers f (j + 1) (g - 1)) (first-four f j) ∙ split-numbers f j g 1 (omega arith))
      (past-both r (M ++ (N ++ G)) T ∙ ap (past r) same))

  -- a run, and what stands after it
  run-turn : (turns j g : ℕ) (r : Reader) → Decodes turns → group_width f j ≡ 0 → 0 < g → g ≤ suc turns → g < 2 ^ 64
      → At s r (run_bits g (zero_groups f j g) ++ after_run f (groups_bits f turns) j g (zero_groups f j g))
      → zeros_part (row_from s 0 turns) g (zeros_of s g r)
      ≡ record { values = numbers f j g; reader = past r (run_bits g (zero_groups f j g) ++ after_run f (groups_bits f turns) j g (zero_groups f j g)) }
  unfolding zeros_of width_after after_run tab
  run-turn turns j g r rest none some most fits h =
      let k = zero_groups f j g in
      let B = run_bits g k in
      let k1 = run-some f j g none some in
      let k2 = run-most f j g in
      let values : zeros (4 * k) ++ numbers f (j + k) (g - k) ≡ numbers f j g =
      ap (λ (l : List ℤ). l ++ numbers f (j + k) (g - k)) (sym (tab-zero (4 * k) (λ x. f (4 * j + x)) (λ x b. run-zero f small j g x b))) ∙ split-numbers f j g k k2 in
      rw (run-back s r g k k1 k2 fits (at_left s r B _ h))
      (by k1 k2 values (eqb k g) refl (at_right s r B _ h))
    where
      by : 0 < zero_groups f j g → zero_groups f j g ≤ g → zeros (4 * zero_groups f j g) ++ numbers f (j + zero_groups f j g) (g - zero_groups f j g) ≡ numbers f j g
          → (b : Bool) → eqb (zero_groups f j g) g ≡ b
          → At s (past r (run_bits g (zero_groups f j g))) (cond b [] (unary_bits (group_width f (j + zero_groups f j g)) ++ groups_bits f turns (j + zero_groups f j g) (g - zero_groups f j g)))
          → zeros_part (row_from s 0 turns) g (record { groups = zero_groups f j g; width = (width_after s (g - zero_groups f j g) (past r (run_bits g (zero_groups f j g)))).value; reader = (width_after s (g - zero_groups f j g) (past r (run_bits g (zero_groups f j g)))).reader })
          ≡ record { values = numbers f j g; reader = past r (run_bits g (zero_groups f j g) ++ cond b [] (unary_bits (group_width f (j + zero_groups f j g)) ++ groups_bits f turns (j + zero_groups f j g) (g - zero_groups f j g))) }
      by k1 k2 values true e h =
          let k = zero_groups f j g in
          let q = past r (run_bits g k) in
          let left : g - k ≡ 0 = omega (arith, eqb-true k g e) in
          rw (left, row-none turns (record { value = 0; reader = q }))
          (part-is _ _ _ _ (rw left at values) (sym (past-none q) ∙ past-both r (run_bits g k) []))
      by k1 k2 values false e h =
          let k = zero_groups f j g in
          let q = past r (run_bits g k) in
          let less : k < g = omega (arith, eqb-false k g e) in
          let U = unary_bits (group_width f (j + k)) in
          let T = groups_bits f turns (j + k) (g - k) in
          rw (ne_eqb (g - k) 0 (λ z. omega arith), read-unary s q (group_width f (j + k)) (run_ends f j g less) (at_left s q U T h), rest (j + k) (g - k) (group_width f (j + k)) (past q U) (omega arith) (omega arith) (λ _. refl) (at_right s q U T h))
          (part-is _ _ _ _ values (past-both q U T ∙ past-both r (run_bits g k) (U ++ T)))

  -- either
  turn : (turns j g : ℕ) (r : Reader) → Decodes turns → 0 < g → g ≤ suc turns → g < 2 ^ 64 → (b : Bool) → eqb (group_width f j) 0 ≡ b
      → At s r (cond b (run_bits g (zero_groups f j g) ++ after_run f (groups_bits f turns) j g (zero_groups f j g)) (value_bits f (group_width f j) j ++ (next_bits f j g ++ (signs_bits f j ++ groups_bits f turns (j + 1) (g - 1)))))
      → cond b (zeros_part (row_from s 0 turns) g (zeros_of s g r)) (group_part (row_from s 0 turns) g (group_of s 0 g (record { value = group_width f j; reader = r })))
      ≡ record { values = numbers f j g; reader = past r (cond b (run_bits g (zero_groups f j g) ++ after_run f (groups_bits f turns) j g (zero_groups f j g)) (value_bits f (group_width f j) j ++ (next_bits f j g ++ (signs_bits f j ++ groups_bits f turns (j + 1) (g - 1))))) }
  turn turns j g r rest some most fits true e h = run-turn turns j g r rest (eqb-true (group_width f j) 0 e) some most fits h
  turn turns j g r rest some most fits false e h = group-turn turns j g r rest some most fits h

  pub groups-back : (turns : ℕ) → Decodes turns
  unfolding row_from row_step groups_bits tab
  groups-back zero j g w r most fits known h =
      let e : g ≡ 0 = omega arith in
      rw (e, past-none r)
  groups-back (suc turns) j zero w r most fits known h = rw (past-none r)
  groups-back (suc turns) j (suc g) w r most fits known h =
      let k = known (omega arith) in
      let n = width-most f small j in
      let more : eqb (suc g) 0 ≡ false = ne_eqb (suc g) 0 (λ z. omega arith) in
      rw (more, eq-eqb r.status 0 h.sound, k, le-leb (group_width f j) 19 n)
      (turn turns j (suc g) r (groups-back turns) (omega arith) most fits (eqb (group_width f j) 0) refl (rw more at h))

-- ---- a row of n columns, from a reader at its bits
padded-small : (n : ℕ) (f : Signal) → ((x : ℕ) → x < n → nat_abs (f x) < 2 ^ 19) → Small (padded n f)
padded-small n f h x = of-cond (λ (z : ℤ). nat_abs z < 2 ^ 19) (ltb x n) (f x) (pos 0) (λ t. h x (ltb-true x n t)) (λ t. omega arith)

-- values past the last column are dropped
dropped : (n : ℕ) (f : Signal) → take n (numbers (padded n f) 0 ((n + 3) / 4)) ≡ tab n f
dropped n f =
    let m = 4 * ((n + 3) / 4) - n in
    let e : 4 * ((n + 3) / 4) ≡ n + m = omega arith in
    let p : Signal = λ x. padded n f (4 * 0 + x) in
    ap (λ (k : ℕ). take n (tab k p)) e
    ∙ ap (take n) (tab-add n m p)
    ∙ take_at (tab n p) (tab m (λ k. p (n + k))) n (length-tab n p)
    ∙ tab-same n p f (λ x l. let z : 4 * 0 + x ≡ x = omega arith in rw (z, lt-ltb x n l))

pub row_back : (s : List ℕ) (n : ℕ) (f : Signal) (r : Reader) → n < 2 ^ 64 → ((x : ℕ) → x < n → nat_abs (f x) < 2 ^ 19) → At s r (row_bits n f)
    → row_of s 0 n r ≡ record { values = tab n f; reader = past r (row_bits n f) }
unfolding row_of row_bits
row_back s n f r fits small h =
    let p = padded n f in
    let g = (n + 3) / 4 in
    let A = update_bits 0 (group_width p 0) in
    let B = groups_bits p g 0 g in
    rw (update-back s r 0 (group_width p 0) (at_left s r A B h), groups-back s p (padded-small n f small) g 0 g (group_width p 0) (past r A) (omega arith) (omega arith) (λ _. refl) (at_right s r A B h))
    (part-is _ _ _ _ (dropped n f) (past-both r A B))
