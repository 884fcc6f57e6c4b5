-- `step_word` meets its contract. Assumes nothing.
use Rattle.std.proofs.Common.{arith, ◌≡◌, refl, ap, cond, ℕ, ◌+◌, ◌*◌, ◌/◌, ◌%◌, ◌^◌, ◌≤◌, ℤ, pos, ◌+ℤ◌, get_or, w8, w64, SFits, to_z, of_z, to_z-of_z}
use lib.Signed.{le_z}
use mir.ValLaws.{to_z_pos}
use mir.Facts.{sfits_widen}
use Rattle.lists.proofs.Tab.{get_or-tab}
use lib.Count.{count_leading_zeros}
use Rattle.lists.specs.Lists.{tab}
use Rattle.rows.specs.declared.TheConstants.{UPDATES}
use Rattle.rows.specs.Word.{move_of, length_of, Tables}
use Rattle.rows.proofs.LevelLaws.{level-pos}
use Rattle.rows.proofs.UpdateTable.{move-fits, level-fits, change-few, change-table}
use Rattle.rows.proofs.step_word.Goals.{After-changed-u, After-pick-bits, Start}
use Rattle.rows.proofs.step_word.Goals as goal

-- the table is that of the update
table : Tables UPDATES
unfolding tab move_of length_of count_leading_zeros
table = refl

-- what it holds for the first five bits of the update
module _ (c : Start) where
  abbrev rest : ℕ
  rest = c.args.word * 2 ^ (4 * c.args.width) % 2 ^ 64

  abbrev first : ℕ
  first = rest / 2 ^ 59

  abbrev level : ℤ
  level = pos c.args.width +ℤ move_of first

  row : get_or UPDATES first (pos 0, 0) ≡ (move_of first, length_of first)
  row = rw table (get_or-tab 32 (λ k. (move_of k, length_of k)) first (pos 0, 0) (omega arith))

  move-is : to_z w8 (of_z w8 ((get_or UPDATES first (pos 0, 0)).0)) ≡ move_of first
  move-is =
      let f = move-fits first in
      rw row (to_z-of_z f)

  size_is : (get_or UPDATES first (pos 0, 0)).1 ≡ length_of first
  size_is = ap (λ (u : ℤ × ℕ). u.1) row

  level-is : to_z w64 c.args.width +ℤ to_z w64 (of_z w64 (to_z w8 (of_z w8 ((get_or UPDATES first (pos 0, 0)).0)))) ≡ level
  level-is =
      let f : SFits w64 (move_of first) = sfits_widen tt (move-fits first) in
      simp (to_z_pos w64 c.args.width (omega arith), move-is, to_z-of_z)

pub overflow_cast-level-2 : goal.overflow_cast-level-2
overflow_cast-level-2 c = rw (move-is (goal.at.overflow_cast-level-2 c).Start) (sfits_widen tt (move-fits (first (goal.at.overflow_cast-level-2 c).Start)))

pub overflow_add-level : goal.overflow_add-level
overflow_add-level c =
    let s = (goal.at.overflow_add-level c).Start in
    rw (level-is s) (level-fits s.args.width (first s) s.requires.1)

-- the bits of the update
bits_is : (c : After-pick-bits)
    → (let s = (goal.at.After-pick-bits c).Start in
    c.pick-bits.result ≡ cond (le_z (level s) (pos 0)) (s.args.width + 1) (length_of (first s)))
bits_is c =
    let s = (goal.at.After-pick-bits c).Start in
    let f = level-fits s.args.width (first s) s.requires.1 in
    simp (level-is s, size_is s, to_z-of_z) at c.pick-bits.ensures

-- the width by the update's zeros
width_few : (c : After-changed-u) → c.changed-u.result.value ≤ 77
width_few c =
    let s = (goal.at.After-changed-u c).Start in
    rw c.changed-u.ensures.0 (omega (arith, change-few (rest s) s.args.width))

pub returns-then-bits-gt16 : goal.returns-then-bits-gt16
returns-then-bits-gt16 c =
    let u = (goal.at.returns-then-bits-gt16 c).After-changed-u in
    let plain = to_z_pos w64 u.changed-u.result.value (omega (arith, width_few u)) in
    record {
      step = rw (plain, level-pos, u.changed-u.ensures.0) (refl, refl);
      used_bound = omega (arith, u.changed-u.ensures.1);
    }

pub returns : goal.returns
returns c =
    let p = (goal.at.returns c).After-pick-bits in
    let s = (goal.at.After-pick-bits p).Start in
    let f = level-fits s.args.width (first s) s.requires.1 in
    let most : p.pick-bits.result ≤ 16 = omega arith in
    let e = change-table (rest s) s.args.width (omega arith) s.requires.0 (rw (bits_is p) at most) in
    record {
      step = simp (level-is s, to_z-of_z, bits_is p) (e.0, ap (λ (n : ℕ). 4 * s.args.width + n) e.1);
      used_bound = omega arith;
    }

pub overflow_cast-result : goal.overflow_cast-result
overflow_cast-result c = record { sfits = omega (arith, width_few (goal.at.overflow_cast-result c).After-changed-u) }
