-- The bits that a number takes, the width of a group, and how far a zero run goes. Assumes nothing.
use Rattle.std.proofs.Common.{◌≡◌, ℕ, zero, suc, ◌+◌, ◌*◌, ◌^◌, ◌≤◌, ◌<◌, max, pow-suc, arith, nat_abs, eqb, eq-eqb}
use Rattle.std.proofs.lemmas.Nat.{leading_length}
use Rattle.std.proofs.lemmas.Bool.{eqb-false}
use Rattle.wrap32.proofs.Laws.{of-cond}
use Rattle.format.specs.Lifting.{Signal}
use Rattle.format.specs.Reader.{bit_length}
use Rattle.format.specs.Writing.{group_width, zero_groups}
use Rattle.format.proofs.RunLaws.{exponent_lt}
use Rattle.encoding.specs.Numbers.{Small}

-- ---- the bits that a number has
module _ (x : ℕ) (fits : x < 2 ^ 64) where
  pub under-length : x < 2 ^ bit_length x
  under-length =
      let l = leading_length 64 x fits in
      let e : l.0 ≡ bit_length x = omega (arith, l.1) in
      rw (← e) l.2

  pub length-under : 2 ^ bit_length x ≤ 2 * x + 1
  length-under =
      let l = leading_length 64 x fits in
      let e : l.0 ≡ bit_length x = omega (arith, l.1) in
      rw (← e) l.3

  pub length_most : (n : ℕ) → x < 2 ^ n → bit_length x ≤ n
  length_most n h =
      let k = length-under in
      let j : bit_length x < suc n = exponent_lt (bit_length x) (suc n) (omega (arith, pow-suc 2 n)) in
      omega arith

  pub length_some : 0 < x → 0 < bit_length x
  length_some h = exponent_lt 0 (bit_length x) (omega (arith, under-length))

-- ---- the widths of a row whose numbers are below 2 ^ 19 in magnitude
module _ (f : Signal) (small : Small f) (j : ℕ) where
  -- the largest magnitude of group j
  abbrev pub largest : ℕ
  largest = max (max (nat_abs (f (4 * j))) (nat_abs (f (4 * j + 1)))) (max (nat_abs (f (4 * j + 2))) (nat_abs (f (4 * j + 3))))

  largest-lt : largest < 2 ^ 19
  largest-lt = omega (arith, small (4 * j), small (4 * j + 1), small (4 * j + 2), small (4 * j + 3))

  pub width-most : group_width f j ≤ 19
  unfolding group_width
  width-most = length_most largest (omega (arith, largest-lt)) 19 largest-lt

  pub holds : largest < 2 ^ group_width f j
  unfolding group_width
  holds = under-length largest (omega (arith, largest-lt))

  pub held-0 : nat_abs (f (4 * j)) < 2 ^ group_width f j
  held-0 = omega (arith, holds)

  pub held-1 : nat_abs (f (4 * j + 1)) < 2 ^ group_width f j
  held-1 = omega (arith, holds)

  pub held-2 : nat_abs (f (4 * j + 2)) < 2 ^ group_width f j
  held-2 = omega (arith, holds)

  pub held-3 : nat_abs (f (4 * j + 3)) < 2 ^ group_width f j
  held-3 = omega (arith, holds)

-- ---- a run goes as far as it can
module _ (f : Signal) where
  pub run-most : (j g : ℕ) → zero_groups f j g ≤ g
  unfolding zero_groups
  run-most j zero = omega arith
  run-most j (suc g) = of-cond (λ (k : ℕ). k ≤ suc g) (eqb (group_width f j) 0) _ _ (λ _. omega (arith, run-most (suc j) g)) (λ _. omega arith)

  pub run-some : (j g : ℕ) → group_width f j ≡ 0 → 0 < g → 0 < zero_groups f j g
  unfolding zero_groups
  run-some j zero e h = absurd (omega arith)
  run-some j (suc g) e h = rw (eq-eqb (group_width f j) 0 e) (omega arith)

  pub run_ends : (j g : ℕ) → zero_groups f j g < g → 0 < group_width f (j + zero_groups f j g)
  unfolding zero_groups
  run_ends j zero = λ h. absurd (omega arith)
  run_ends j (suc g) =
      of-cond (λ (k : ℕ). k < suc g → 0 < group_width f (j + k)) (eqb (group_width f j) 0) _ _
      (λ t h. let e : j + suc (zero_groups f (suc j) g) ≡ suc j + zero_groups f (suc j) g = omega arith in rw e (run_ends (suc j) g (omega arith)))
      (λ t h. let e : j + 0 ≡ j = omega arith in rw e (omega (arith, eqb-false (group_width f j) 0 t)))
