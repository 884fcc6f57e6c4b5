-- What takes codes on its way through a row: some bits are taken, and those with the rest are the row's. Assumes nothing.
use Rattle.std.proofs.Common.{◌≡◌, sym, ap, ◌∙◌, List, [], ◌++◌, append-nil, append_assoc, ℕ, ◌+◌, ◌-◌, ◌*◌, ◌≤◌, ◌<◌, arith, length, length-append}
use Rattle.format.specs.Lifting.{Signal}
use Rattle.format.specs.Writing.{group_width, value_bits}
use Rattle.encoding.specs.Turn.{turn_groups, tail_bits, turn_bits, rest_bits}
use Rattle.encoding.proofs.Turns.{none_left, rest-turn, length-turn, length-values}

-- the laws of a `Sink`
pub record Laws {S : Type 0} (Takes : S → S → List ℕ → Type 0) (CanTake : S → ℕ → Type 0) : Type 0 where
  pub none : (s : S) (n : ℕ) → CanTake s n → Takes s s []
  pub both : (s t u : S) (x y : List ℕ) → Takes s t x → Takes t u y → Takes s u (x ++ y)
  pub after : (s t : S) (x : List ℕ) (n k : ℕ) → CanTake s n → Takes s t x → length x + k ≤ n → CanTake t k

-- at group j of g
pub record Progress {S : Type 0} (Takes : S → S → List ℕ → Type 0) (CanTake : S → ℕ → Type 0) (f : Signal) (g : ℕ) (s r : S) (j : ℕ) : Type 0 where
  pub done : List ℕ
  pub took : Takes s r done
  pub whole : done ++ rest_bits f j (g - j) ≡ rest_bits f 0 g
  pub can : CanTake r (length (rest_bits f j (g - j)))

module _ {S : Type 0} (Takes : S → S → List ℕ → Type 0) (CanTake : S → ℕ → Type 0) (laws : Laws Takes CanTake) where
  pub can-less : (s : S) (n k : ℕ) → CanTake s n → k ≤ n → CanTake s k
  can-less s n k h l = laws.after s s [] n k h (laws.none s n h) (omega arith)

  module _ (f : Signal) (g : ℕ) where
    abbrev On : S → S → ℕ → Type 0
    On = Progress Takes CanTake f g

    pub progress_start : (s : S) → CanTake s (length (rest_bits f 0 g)) → On s s 0
    progress_start s h =
        let e : g - 0 ≡ g = omega arith in
        record { done = []; took = laws.none s _ h; whole = ap (rest_bits f 0) e; can = rw e h }

    pub progress-next : (s r a b : S) (j k : ℕ) → j < g → k ≡ turn_groups f j (g - j) → On s r j
        → Takes r a (value_bits f (group_width f j) j) → Takes a b (tail_bits f j (g - j)) → On s b (j + k)
    progress-next s r a b j k l e h p q =
        let T = turn_bits f j (g - j) in
        let m : g - j - k ≡ g - (j + k) = omega arith in
        let first : rest_bits f j (g - j) ≡ T ++ rest_bits f (j + k) (g - (j + k)) = rest-turn f j (g - j) (omega arith) ∙ rw (← e, m) in
        let two = laws.both r a b _ _ p q in
        record {
          done = h.done ++ T;
          took = laws.both s r b h.done T h.took two;
          whole = append_assoc h.done T (rest_bits f (j + k) (g - (j + k))) ∙ ap (λ (x : List ℕ). h.done ++ x) (sym first) ∙ h.whole;
          can = laws.after r b T _ _ h.can two (omega (arith, ap length first, length-append T (rest_bits f (j + k) (g - (j + k)))));
        }

    pub progress-end : (s r : S) (j : ℕ) → g ≤ j → On s r j → Takes s r (rest_bits f 0 g)
    progress-end s r j l h =
        let z : g - j ≡ 0 = omega arith in
        let e : rest_bits f j (g - j) ≡ [] = ap (rest_bits f j) z ∙ none_left f 0 j in
        let d : h.done ≡ rest_bits f 0 g = sym (append-nil h.done) ∙ ap (λ (x : List ℕ). h.done ++ x) (sym e) ∙ h.whole in
        rw (← d) h.took

    -- the room for a turn's values, and then for its tail
    pub can-values : (s r : S) (j : ℕ) → j < g → On s r j → CanTake r (4 * group_width f j)
    can-values s r j l h = can-less r _ _ h.can (omega (arith, length-turn f j (g - j) (omega arith)))

    pub can-tail : (s r a : S) (j : ℕ) → j < g → On s r j → Takes r a (value_bits f (group_width f j) j) → CanTake a (length (tail_bits f j (g - j)))
    can-tail s r a j l h p =
        laws.after r a _ _ _ h.can p (omega (arith, length-turn f j (g - j) (omega arith), length-values f (group_width f j) j))
