-- Laws of a tally. Assumes nothing.
use Rattle.std.proofs.Common.{◌≡◌, ℕ, zero, suc, ◌+◌, ◌≤◌, ◌<◌, List, [], ◌∷◌, length, get_or, arith, set}
use Rattle.replay.specs.declared.Count.{Count}
use Rattle.replay.specs.Tally.{total, counts_of}

-- no case
abbrev pub none : Count
none = record { right = 0; wrong = 0 }

module _ (d : Count) where
  -- no count is above the sum
  pub count_most : (l : List Count) (k : ℕ) → k < length l → ((get_or l k d).right ≤ total (counts_of l)) × ((get_or l k d).wrong ≤ total (counts_of l))
  unfolding total
  count_most [] k h = absurd (omega arith)
  count_most (c ∷ l) zero h = (omega arith, omega arith)
  count_most (c ∷ l) (suc k) h = let (a, b) = count_most l k (omega arith) in (omega arith, omega arith)

  -- one case more
  pub total_next : (l : List Count) (k : ℕ) (c : Count) → k < length l → c.right + c.wrong ≡ (get_or l k d).right + (get_or l k d).wrong + 1
      → total (counts_of (set l k c)) ≡ total (counts_of l) + 1
  unfolding total
  total_next [] k c h e = absurd (omega arith)
  total_next (u ∷ l) zero c h e = omega (arith, e)
  total_next (u ∷ l) (suc k) c h e = omega (arith, total_next l k c (omega arith) e)
