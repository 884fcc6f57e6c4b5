-- What `wrapping` and `checked` have in common with whole numbers: both are faithful within 32 bits. A law for each operation then carries a
-- bound along, for any faithful arithmetic. Assumes nothing.
use Rattle.std.proofs.Common.{◌≡◌, refl, ap, ◌∙◌, Bool, true, false, cond, ℕ, zero, suc, ◌+◌, ◌/◌, ◌^◌, ◌≤◌, ◌<◌, lt_of_lt_of_le, arith, lt-ltb, ℤ, pos, negsuc, ◌+ℤ◌, ◌-ℤ◌, w32, SFits}
use Rattle.std.proofs.Math.Bool.{beq}
use Rattle.std.specs.Int.Signed.{mag, shr_z}
use Rattle.wrap32.specs.Arithmetic.{Arithmetic, wrapping, whole, outside, number, within, both, alone, checked}
use Rattle.wrap32.specs.Edge.{sign_of, is_odd, edge_detail}
use Rattle.wrap32.proofs.Laws.{add_w-plain, sub_w-plain, cut-id, mag-add, mag-diff, mag-half, mag-quarter}

-- of numbers within 32 bits, what stays there is what it is in whole numbers
pub record Faithful {N : Type 0} (A : Arithmetic N) : Type 0 where
  pub sum : (x y : ℤ) → SFits w32 x → SFits w32 y → SFits w32 (x +ℤ y) → A.plus (A.of x) (A.of y) ≡ A.of (x +ℤ y)
  pub difference : (x y : ℤ) → SFits w32 x → SFits w32 y → SFits w32 (x -ℤ y) → A.minus (A.of x) (A.of y) ≡ A.of (x -ℤ y)
  pub shifted : (x : ℤ) (n : ℕ) → SFits w32 x → A.shift (A.of x) n ≡ A.of (shr_z x n)
  pub sum64 : (x y : ℤ) → SFits w32 x → SFits w32 y → SFits w32 (x +ℤ y) → A.plus64 (A.of x) (A.of y) ≡ A.of (x +ℤ y)
  pub difference64 : (x y : ℤ) → SFits w32 x → SFits w32 y → SFits w32 (x -ℤ y) → A.minus64 (A.of x) (A.of y) ≡ A.of (x -ℤ y)
  pub uncut : (x : ℤ) → SFits w32 x → A.cut32 (A.of x) ≡ A.of x

pub wrapping-faithful : Faithful wrapping
wrapping-faithful = record {
  sum = λ x y _ _ f. add_w-plain x y f;
  difference = λ x y _ _ f. sub_w-plain x y f;
  shifted = λ x n _. refl;
  sum64 = λ x y _ _ _. refl;
  difference64 = λ x y _ _ _. refl;
  uncut = λ x f. cut-id w32 x f;
}

pub number_of : (z : ℤ) → SFits w32 z → within z ≡ number z
unfolding within
number_of z f = ap (λ (b : Bool). cond b (number z) outside) (lt-ltb (mag z) _ (omega (arith, f.sfits)))

both_of : (f : ℤ → ℤ → ℤ) (x y : ℤ) → SFits w32 x → SFits w32 y → both f (within x) (within y) ≡ within (f x y)
both_of f x y p q = (λ i. both f (number_of x p i) (number_of y q i))

pub checked-faithful : Faithful checked
checked-faithful = record {
  sum = λ x y p q _. both_of ◌+ℤ◌ x y p q;
  difference = λ x y p q _. both_of ◌-ℤ◌ x y p q;
  shifted = λ x n p. ap (alone (λ z. shr_z z n)) (number_of x p);
  sum64 = λ x y p q _. both_of ◌+ℤ◌ x y p q;
  difference64 = λ x y p q _. both_of ◌-ℤ◌ x y p q;
  uncut = λ x p. refl;
}

module _ {N : Type 0} (A : Arithmetic N) where
  -- a number of the arithmetic is the whole number z, which lies from -m to m - 1
  pub record Is (m : ℕ) (a : N) (z : ℤ) : Type 0 where
    pub same : a ≡ A.of z
    pub below : mag z < m

  pub weaker : {m n : ℕ} {a : N} {z : ℤ} → Is m a z → m ≤ n → Is n a z
  weaker p h = record { same = p.same; below = lt_of_lt_of_le p.below h }

  pub of_is : (m : ℕ) (z : ℤ) → mag z < m → Is m (A.of z) z
  of_is m z h = record { same = refl; below = h }

  -- either of two, by one test
  pub cond-is : {m : ℕ} (t : Bool) (a b : N) (x y : ℤ) → (t ≡ true → Is m a x) → (t ≡ false → Is m b y) → Is m (cond t a b) (cond t x y)
  cond-is true a b x y p q = p refl
  cond-is false a b x y p q = q refl

module _ {N : Type 0} (A : Arithmetic N) (ok : Faithful A) where
  pair_is : (op : N → N → N) (f : ℤ → ℤ → ℤ) → ((x y : ℤ) → SFits w32 x → SFits w32 y → SFits w32 (f x y) → op (A.of x) (A.of y) ≡ A.of (f x y))
      → ((x y : ℤ) (m n : ℕ) → mag x < m → mag y < n → mag (f x y) < m + n) → {m n : ℕ} {a b : N} {x y : ℤ} → Is A m a x → Is A n b y → m + n ≤ 2 ^ 31 → Is A (m + n) (op a b) (f x y)
  pair_is op f law less {m} {n} {a} {b} {x} {y} p q h =
      let s = less x y m n p.below q.below in
      record { same = (λ i. op (p.same i) (q.same i)) ∙ law x y (omega (arith, p.below)) (omega (arith, q.below)) (omega (arith, s)); below = s }

  pub plus-is : {m n : ℕ} {a b : N} {x y : ℤ} → Is A m a x → Is A n b y → m + n ≤ 2 ^ 31 → Is A (m + n) (A.plus a b) (x +ℤ y)
  plus-is = pair_is A.plus ◌+ℤ◌ ok.sum mag-add

  pub minus_is : {m n : ℕ} {a b : N} {x y : ℤ} → Is A m a x → Is A n b y → m + n ≤ 2 ^ 31 → Is A (m + n) (A.minus a b) (x -ℤ y)
  minus_is = pair_is A.minus ◌-ℤ◌ ok.difference mag-diff

  pub plus64-is : {m n : ℕ} {a b : N} {x y : ℤ} → Is A m a x → Is A n b y → m + n ≤ 2 ^ 31 → Is A (m + n) (A.plus64 a b) (x +ℤ y)
  plus64-is = pair_is A.plus64 ◌+ℤ◌ ok.sum64 mag-add

  pub minus64-is : {m n : ℕ} {a b : N} {x y : ℤ} → Is A m a x → Is A n b y → m + n ≤ 2 ^ 31 → Is A (m + n) (A.minus64 a b) (x -ℤ y)
  minus64-is = pair_is A.minus64 ◌-ℤ◌ ok.difference64 mag-diff

  pub half_is : {m : ℕ} {a : N} {x : ℤ} → Is A m a x → m ≤ 2 ^ 31 → Is A ((m + 1) / 2) (A.shift a 2) (shr_z x 2)
  half_is {m} {a} {x} p h =
      record { same = ap (λ (n : N). A.shift n 2) p.same ∙ ok.shifted x 2 (omega (arith, p.below)); below = mag-half x m p.below }

  pub quarter-is : {m : ℕ} {a : N} {x : ℤ} → Is A m a x → m ≤ 2 ^ 31 → Is A ((m + 3) / 4) (A.shift a 4) (shr_z x 4)
  quarter-is {m} {a} {x} p h =
      record { same = ap (λ (n : N). A.shift n 4) p.same ∙ ok.shifted x 4 (omega (arith, p.below)); below = mag-quarter x m p.below }

  pub cut-is : {m : ℕ} {a : N} {x : ℤ} → Is A m a x → m ≤ 2 ^ 31 → Is A m (A.cut32 a) x
  cut-is {m} {a} {x} p h = record { same = ap A.cut32 p.same ∙ ok.uncut x (omega (arith, p.below)); below = p.below }

  -- E
  sign_small : (z : ℤ) → mag (sign_of z) < 2
  sign_small (pos zero) = omega arith
  sign_small (pos (suc n)) = omega arith
  sign_small (negsuc n) = omega arith

  pub edge-is : (odd : Bool) (m : ℕ) (z : ℤ) → mag z < m → m ≤ 2 ^ 29 → Is A (m + m + 2) (edge_detail A odd z) (edge_detail whole odd z)
  unfolding edge_detail
  edge-is odd m z h b =
      let v = of_is A m z h in
      let two = plus-is v v (omega arith) in
      cond-is A (beq (is_odd z) odd) _ _ _ _ (λ _. plus-is two (of_is A 2 (sign_of z) (sign_small z)) (omega arith)) (λ _. weaker A two (omega arith))
