-- What comparing numbers tells. Assumes nothing.
use Rattle.std.proofs.Common.{◌≡◌, ℕ, ◌<◌, List, Bool, true, false, length, get_or, refl, ap, ◌∙◌, ℤ, pos, MatchBool, arith, zero-add, ◌≢◌}
use Rattle.std.proofs.lemmas.Bool.{false≢true}
use Rattle.lists.proofs.Tab.{tab-of, tab-same, get_or-tab}
use Rattle.std.specs.List.{range_with_len, AllWithin, HoldsAt}
use Rattle.std.proofs.lemmas.List.FromFn.{length-range_with_len, get_or-range_with_len}
use Rattle.replay.specs.Numbers.{Tells, always}

module _ (l : List ℤ) (f : ℕ → ℤ) where
  -- each number was compared, or one that differs was found
  told_by : (r : Bool) → MatchBool r ((k : ℕ) → k < length l → get_or l k (pos 0) ≡ f k) ((k : ℕ) × (k < length l) × (get_or l k (pos 0) ≢ f k)) → Tells r l f
  told_by true same = (λ e. tab-of (pos 0) l ∙ tab-same (length l) (λ k. get_or l k (pos 0)) f same, λ e. refl)
  told_by false (k, h, differs) = (λ e. absurd (false≢true e), λ e. absurd (differs (ap (λ (t : List ℤ). get_or t k (pos 0)) e ∙ get_or-tab (length l) f k (pos 0) h)))

-- the same of the library's `all`: over the numbers, and over their places
pub told_each : (l : List ℤ) (v : ℤ) (r : Bool) → MatchBool r (AllWithin (λ x. x ≡ v) l 0 (length l)) ((k : ℕ) × (k < length l) × HoldsAt (λ x. x ≢ v) l k) → Tells r l (always v)
told_each l v true same = told_by l (always v) true (λ k h. same k (pos 0) (omega arith) h)
told_each l v false (k, h, differs) = told_by l (always v) false (k, h, differs (pos 0))

module _ (l : List ℤ) (f : ℕ → ℤ) where
  pub told_places : (r : Bool) → MatchBool r
      (AllWithin (λ i. get_or l i (pos 0) ≡ f i) (range_with_len 0 (length l)) 0 (length (range_with_len 0 (length l))))
      ((k : ℕ) × (k < length (range_with_len 0 (length l))) × HoldsAt (λ i. get_or l i (pos 0) ≢ f i) (range_with_len 0 (length l)) k)
      → Tells r l f
  told_places true same =
      told_by l f true (λ k h. rw (get_or-range_with_len 0 (length l) k 0 h, zero-add) at (same k 0 (omega arith) (rw (length-range_with_len 0 (length l)) h)))
  told_places false (k, h, differs) =
      let low : k < length l = rw (length-range_with_len 0 (length l)) at h in
      told_by l f false (k, low, (rw (get_or-range_with_len 0 (length l) k 0 low, zero-add) at (differs 0)))
