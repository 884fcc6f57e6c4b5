-- Laws of the refusals' numbers: of checks in turn, and of what the exit of a `?` answers. Assumes nothing.
use Rattle.std.proofs.Common.{◌≡◌, Result, Ok, Err, ℕ, zero, suc, ◌+◌, ◌<◌, refl, sym, ap, ◌∙◌, arith}
use Rattle.std.specs.Result.{result_and, IsErrAnd}
use Rattle.format.specs.Refusals.{◌▷◌, each}
use Rattle.format.proofs.TurnLaws.{stops, each_on, each-stop}
use Rattle.refusals.specs.declared.Refusal.{Refusal}
use Rattle.refusals.specs.Number.{number_of, code_of}

-- no refusal has the number of none
pub not_zero : (e : Refusal) → number_of e ≡ 0 → ⊥
not_zero e h = grind arith

-- of two checks in turn, one that refuses decides
pub decides : (e : Refusal) (a b : ℕ) → number_of e ≡ a → number_of e ≡ (a ▷ b)
decides e a b h = h ∙ sym (stops a b (λ z. not_zero e (h ∙ z)))

-- ---- what the exit of a `?` answers has the number of the refusal that it met
pub exits : {A : Type 0} (r : Result A Refusal) (e : Refusal) → IsErrAnd r (λ d. d ≡ e) → code_of r ≡ number_of e
exits (Ok x) e h = elim h [ ]
exits (Err d) e h = ap number_of h

module _ {A : Type 0} (r : Result A Refusal) (e : Refusal) (exit : IsErrAnd r (λ d. d ≡ e)) where
  -- that of the first of two checks in turn
  pub exits_first : (a b : ℕ) → number_of e ≡ a → code_of r ≡ (a ▷ b)
  exits_first a b h = exits r e exit ∙ decides e a b h

  -- that of check i of n in turn
  pub exits_each : (f : ℕ → ℕ) (i n : ℕ) → each f i ≡ 0 → number_of e ≡ f i → i < n → code_of r ≡ each f n
  exits_each f i n before h less = exits r e exit ∙ h ∙ sym (each-stop f i n before (λ z. not_zero e (h ∙ z)) less)

-- ---- `and`: of two checks that are both made, the first that refuses counts
pub code_of-and : {A B : Type 0} (a : Result A Refusal) (b : Result B Refusal) → code_of (result_and a b) ≡ (code_of a ▷ code_of b)
code_of-and (Ok x) b = refl
code_of-and (Err r) b = sym (stops (number_of r) (code_of b) (not_zero r))

-- the same of three, and of four
turn-assoc : (a b c : ℕ) → ((a ▷ b) ▷ c) ≡ (a ▷ b ▷ c)
turn-assoc zero b c = refl
turn-assoc (suc a) b c = refl

module _ {A : Type 0} (a b c : Result A Refusal) (r s : Result A Refusal) (first : r ≡ result_and a b) (second : s ≡ result_and r c) where
  pub code_of-and-3 : code_of s ≡ (code_of a ▷ code_of b ▷ code_of c)
  code_of-and-3 = rw (second, first, code_of-and (result_and a b) c, code_of-and a b) (turn-assoc (code_of a) (code_of b) (code_of c))

  pub code_of-and-4 : (d t : Result A Refusal) → t ≡ result_and s d → code_of t ≡ (code_of a ▷ code_of b ▷ code_of c ▷ code_of d)
  code_of-and-4 d t third =
      rw (third, code_of-and s d, code_of-and-3, turn-assoc (code_of a) (code_of b ▷ code_of c) (code_of d)) (ap (λ (n : ℕ). code_of a ▷ n) (turn-assoc (code_of b) (code_of c) (code_of d)))

-- ---- a loop of checks, each with a `?`: r is what check i gives, and s what the loop gives then
module _ {A : Type 0} (f : ℕ → ℕ) (i : ℕ) (before : each f i ≡ 0) (r : Result A Refusal) (found : code_of r ≡ f i) where
  pub each-refused : {B : Type 0} (n : ℕ) (e : Refusal) (s : Result B Refusal) → i < n → r ≡ Err e → IsErrAnd s (λ d. d ≡ e) → code_of s ≡ each f n
  each-refused n e s less was gives = exits_each s e gives f i n before (sym (ap code_of was) ∙ found) less

  pub each-passed : (x : A) → r ≡ Ok x → each f (i + 1) ≡ 0
  each-passed x was = each_on f i before (sym found ∙ ap code_of was)
