-- Laws of a row's turns: the bits of the groups that are left are those of one turn, and the rest. Assumes nothing.
use Rattle.std.proofs.Common.{◌≡◌, refl, sym, ap, ◌∙◌, List, [], ◌++◌, append-nil, append_assoc, Bool, true, false, cond, ℕ, zero, suc, ◌+◌, ◌-◌, ◌*◌, ◌/◌, ◌≤◌, ◌<◌, arith, ℤ, pos, nat_abs, length, length-append, eqb, ltb, eq-eqb, ne_eqb, eqb-true, ltb-false, le-leb, ⊎_elim}
use Rattle.std.proofs.lemmas.Bool.{lt-leb}
use Rattle.std.proofs.Math.ListN.{get_or-eq_default}
use Rattle.wrap32.proofs.Laws.{of-cond}
use Rattle.format.proofs.BitLaws.{le-or-lt}
use Rattle.format.specs.Lifting.{Signal}
use Rattle.format.specs.Writing.{number_bits, unary_bits, update_bits, run_bits, group_width, zero_groups, value_bits, signs_bits, next_bits, after_run, groups_bits, padded, row_bits}
use Rattle.codes.proofs.Pushed.{length-number}
use Rattle.encoding.proofs.Widths.{run-some}
use Rattle.encoding.specs.Numbers.{line}
use Rattle.encoding.specs.Turn.{run_tail, turn_groups, tail_bits, turn_bits, rest_bits}

module _ (f : Signal) where
  pub none_left : (turns j : ℕ) → groups_bits f turns j 0 ≡ []
  unfolding groups_bits
  none_left zero j = refl
  none_left (suc turns) j = refl

  no-values : (n j : ℕ) → n ≡ 0 → value_bits f n j ≡ []
  unfolding number_bits
  no-values zero j e = refl
  no-values (suc n) j e = absurd (omega arith)

  -- ---- one turn
  run-first : (T U : ℕ → List ℕ) (g k : ℕ) (R : List ℕ) (b : Bool) → (b ≡ true → T k ≡ []) → R ++ cond b [] (U k ++ T k) ≡ (R ++ cond b [] (U k)) ++ T k
  run-first T U g k R true h = rw (h refl, append-nil R) (sym (append-nil R))
  run-first T U g k R false h = sym (append_assoc R (U k) (T k))

  turn-cases : (t j g : ℕ) (b : Bool) → eqb (group_width f j) 0 ≡ b
      → cond b (run_bits g (zero_groups f j g) ++ after_run f (groups_bits f t) j g (zero_groups f j g)) (value_bits f (group_width f j) j ++ (next_bits f j g ++ (signs_bits f j ++ groups_bits f t (j + 1) (g - 1))))
      ≡ (value_bits f (group_width f j) j ++ cond b (run_tail g (zero_groups f j g) (group_width f (j + zero_groups f j g))) (next_bits f j g ++ signs_bits f j))
      ++ groups_bits f t (j + cond b (zero_groups f j g) 1) (g - cond b (zero_groups f j g) 1)
  unfolding run_tail after_run
  turn-cases t j g true e =
      let k = zero_groups f j g in
      let done : eqb k g ≡ true → groups_bits f t (j + k) (g - k) ≡ [] =
      λ q. let z : g - k ≡ 0 = omega (arith, eqb-true k g q) in ap (groups_bits f t (j + k)) z ∙ none_left t (j + k) in
      rw (no-values (group_width f j) j (eqb-true (group_width f j) 0 e))
      (run-first (λ i. groups_bits f t (j + i) (g - i)) (λ i. unary_bits (group_width f (j + i))) g k (run_bits g k) (eqb k g) done)
  turn-cases t j g false e =
      let M = value_bits f (group_width f j) j in
      let N = next_bits f j g in
      let S = signs_bits f j in
      let T = groups_bits f t (j + 1) (g - 1) in
      sym (append_assoc M (N ++ S) T ∙ ap (λ (l : List ℕ). M ++ l) (append_assoc N S T))

  turn-first : (t j g : ℕ) → 0 < g → groups_bits f (suc t) j g ≡ turn_bits f j g ++ groups_bits f t (j + turn_groups f j g) (g - turn_groups f j g)
  unfolding groups_bits tail_bits turn_groups
  turn-first t j g h = rw (ne_eqb g 0 (λ z. omega arith)) (turn-cases t j g (eqb (group_width f j) 0) refl)

  pub turn-some : (j g : ℕ) → 0 < g → 0 < turn_groups f j g
  unfolding turn_groups
  turn-some j g h = of-cond (λ (k : ℕ). 0 < k) (eqb (group_width f j) 0) _ _ (λ e. run-some f j g (eqb-true (group_width f j) 0 e) h) (λ e. omega arith)

  -- ---- as many turns as groups are enough
  none-of-none : (t u j g : ℕ) → g ≡ 0 → groups_bits f t j g ≡ groups_bits f u j g
  none-of-none t u j g e = rw e (none_left t j ∙ sym (none_left u j))

  enough : (t u j g : ℕ) → g ≤ t → g ≤ u → groups_bits f t j g ≡ groups_bits f u j g
  enough zero u j g p q = none-of-none 0 u j g (omega arith)
  enough (suc t) zero j g p q = none-of-none (suc t) 0 j g (omega arith)
  enough (suc t) (suc u) j g p q =
      ⊎_elim
      (λ (l : g ≤ 0). none-of-none (suc t) (suc u) j g (omega arith))
      (λ (l : 0 < g).
      let k = turn_groups f j g in
      let s = turn-some j g l in
      turn-first t j g l ∙ ap (λ (x : List ℕ). turn_bits f j g ++ x) (enough t u (j + k) (g - k) (omega (arith, s)) (omega (arith, s)))
      ∙ sym (turn-first u j g l))
      (le-or-lt g 0)

  pub rest-turn : (j g : ℕ) → 0 < g → rest_bits f j g ≡ turn_bits f j g ++ rest_bits f (j + turn_groups f j g) (g - turn_groups f j g)
  rest-turn j zero h = absurd (omega arith)
  rest-turn j (suc g) h =
      let k = turn_groups f j (suc g) in
      let s = turn-some j (suc g) (omega arith) in
      turn-first g j (suc g) (omega arith) ∙ ap (λ (l : List ℕ). turn_bits f j (suc g) ++ l) (enough g (suc g - k) (j + k) (suc g - k) (omega (arith, s)) (omega arith))

  -- ---- the lengths
  pub length-values : (n j : ℕ) → length (value_bits f n j) ≡ 4 * n
  length-values n j =
      let a = number_bits n (nat_abs (f (4 * j))) in
      let b = number_bits n (nat_abs (f (4 * j + 1))) in
      let c = number_bits n (nat_abs (f (4 * j + 2))) in
      let d = number_bits n (nat_abs (f (4 * j + 3))) in
      omega (arith, length-append a (b ++ (c ++ d)), length-append b (c ++ d), length-append c d, length-number n (nat_abs (f (4 * j))), length-number n (nat_abs (f (4 * j + 1))), length-number n (nat_abs (f (4 * j + 2))), length-number n (nat_abs (f (4 * j + 3))))

  pub length-turn : (j g : ℕ) → 0 < g → length (rest_bits f j g) ≡ 4 * group_width f j + length (tail_bits f j g) + length (rest_bits f (j + turn_groups f j g) (g - turn_groups f j g))
  length-turn j g h =
      let k = turn_groups f j g in
      let A = value_bits f (group_width f j) j in
      let B = tail_bits f j g in
      ap length (rest-turn j g h) ∙ omega (arith, length-append (A ++ B) (rest_bits f (j + k) (g - k)), length-append A B, length-values (group_width f j) j)

  -- ---- the two forms of a turn
  pub turn-run : (j g : ℕ) → group_width f j ≡ 0 → (turn_groups f j g ≡ zero_groups f j g) × (tail_bits f j g ≡ run_tail g (zero_groups f j g) (group_width f (j + zero_groups f j g)))
  unfolding turn_groups tail_bits
  turn-run j g e = rw (eq-eqb (group_width f j) 0 e) (refl, refl)

  pub turn-group : (j g : ℕ) → (group_width f j ≡ 0 → ⊥) → (turn_groups f j g ≡ 1) × (tail_bits f j g ≡ next_bits f j g ++ signs_bits f j)
  unfolding turn_groups tail_bits
  turn-group j g e = rw (ne_eqb (group_width f j) 0 e) (refl, refl)

  pub next_last : (j g : ℕ) → g ≤ 1 → next_bits f j g ≡ []
  unfolding next_bits
  next_last j g h = rw (le-leb g 1 h)

  pub next_more : (j g : ℕ) → 1 < g → next_bits f j g ≡ update_bits (group_width f j) (group_width f (j + 1))
  unfolding next_bits
  next_more j g h = rw (lt-leb g 1 h)

pub tail-whole : (g k next : ℕ) → k ≡ g → run_tail g k next ≡ run_bits g k
unfolding run_tail
tail-whole g k next e = rw (eq-eqb k g e) (append-nil (run_bits g k))

pub tail-part : (g k next : ℕ) → (k ≡ g → ⊥) → run_tail g k next ≡ run_bits g k ++ unary_bits next
unfolding run_tail
tail-part g k next e = rw (ne_eqb k g e)

-- ---- a row that is a list: 0 past its end of itself
padded-line : (l : List ℤ) (x : ℕ) → padded (length l) (line l) x ≡ line l x
padded-line l x =
    of-cond (λ (z : ℤ). z ≡ line l x) (ltb x (length l)) (line l x) (pos 0) (λ _. refl)
    (λ e. sym (get_or-eq_default l (pos 0) (omega (arith, ltb-false x (length l) e))))

pub row_of : (l : List ℤ) → row_bits (length l) (line l) ≡ update_bits 0 (group_width (line l) 0) ++ rest_bits (line l) 0 ((length l + 3) / 4)
unfolding row_bits
row_of l =
    let g = (length l + 3) / 4 in
    λ i. update_bits 0 (group_width (λ x. padded-line l x i) 0) ++ groups_bits (λ x. padded-line l x i) g 0 g
