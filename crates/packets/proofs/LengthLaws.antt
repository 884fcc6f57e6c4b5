-- Laws of the lengths that the code answers: what they say of a stream and of its refusal. Assumes nothing.
use Rattle.std.proofs.Common.{Ok, Err, ◌≡◌, refl, sym, ap, ◌∙◌, true, not, List, ℕ, zero, suc, ◌≤◌, length}
use Rattle.format.specs.Strip.{width, coded_height, valid_header}
use Rattle.format.specs.Refusals.{◌▷◌, on, large_refusal, short_refusal, directory_refusal, packets_refusal, refusal}
use Rattle.format.specs.Tile as tile
use Rattle.format.specs.Tile.{size_refusal, lengths_by, lengths_of}
use Rattle.format.proofs.Enough.{measured, measured-long, refusal-after, refused-whatever-is-lent}
use Rattle.format.proofs.TurnLaws.{both-none, on-not}
use Rattle.refusals.specs.declared.Refusal.{Refusal}
use Rattle.refusals.specs.Number.{number_of}
use Rattle.refusals.proofs.Laws.{not_zero}
use Rattle.packets.specs.Answers.{told, short_of}
use Rattle.packets.specs.declared.Lengths.{Lengths}

-- ---- by the coded size
refusal-is : (k w H : ℕ) → (lengths_by k w H).refusal ≡ k
refusal-is zero w H = refl
refusal-is (suc k) w H = refl

pub size_refused : (w H : ℕ) (e : Refusal) → told (Err e) ≡ lengths_by (large_refusal w H) w H → number_of e ≡ large_refusal w H
size_refused w H e is = ap (λ (n : tile.Lengths). n.refusal) is ∙ refusal-is (large_refusal w H) w H

pub size_accepted : (w H : ℕ) (need : Lengths) → told (Ok need) ≡ lengths_by (large_refusal w H) w H → large_refusal w H ≡ 0
size_accepted w H need is = sym (refusal-is (large_refusal w H) w H) ∙ sym (ap (λ (n : tile.Lengths). n.refusal) is)

-- a short slice is one that document 01's refusal 4 means
pub short_is : (w H : ℕ) (need : Lengths) → told (Ok need) ≡ lengths_by 0 w H → (green_n red_n blue_n work_n : ℕ) → short_of need green_n red_n blue_n work_n ≡ short_refusal w H green_n red_n blue_n work_n
unfolding short_of short_refusal
short_is w H need is green_n red_n blue_n work_n =
    rw (
      ap (λ (n : tile.Lengths). n.green) is,
      ap (λ (n : tile.Lengths). n.red) is,
      ap (λ (n : tile.Lengths). n.blue) is,
      ap (λ (n : tile.Lengths). n.work) is,
    ) refl

-- ---- a refusal of a stream's lengths is the stream's, whatever is lent
pub lengths_refused : (s : List ℕ) (e : Refusal) → told (Err e) ≡ lengths_of s → (green_n red_n blue_n work_n : ℕ) → number_of e ≡ refusal s green_n red_n blue_n work_n
lengths_refused s e is green_n red_n blue_n work_n =
    let number = ap (λ (n : tile.Lengths). n.refusal) is in
    number ∙ sym (refused-whatever-is-lent s green_n red_n blue_n work_n (λ z. not_zero e (number ∙ z)))

module _ (s : List ℕ) (need : Lengths) (is : told (Ok need) ≡ lengths_of s) where
  none : (lengths_of s).refusal ≡ 0
  none = sym (ap (λ (n : tile.Lengths). n.refusal) is)

  pub needed_long : 128 ≤ length s
  needed_long = measured-long s none

  pub needed_valid : valid_header s ≡ true
  unfolding lengths_of
  needed_valid = on-not (valid_header s) 1 (both-none (on (not (valid_header s)) 2) _ (sym (refusal-is (size_refusal s) _ _) ∙ none)).0

  -- they are those of the coded size
  pub needed_is : told (Ok need) ≡ lengths_by 0 (width s) (coded_height s)
  needed_is = is ∙ measured s none

  -- without one, the lent slices, directory and packets decide
  module _ (green_n red_n blue_n work_n : ℕ) where
    pub needed_rest : refusal s green_n red_n blue_n work_n ≡ (short_of need green_n red_n blue_n work_n ▷ directory_refusal s ▷ packets_refusal s)
    needed_rest = refusal-after s green_n red_n blue_n work_n ∙ rw (none, short_is (width s) (coded_height s) need needed_is green_n red_n blue_n work_n) refl
