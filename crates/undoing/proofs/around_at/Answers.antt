-- `undoing::around_at` meets its contract. Assumes nothing.
use Rattle.std.proofs.Common.{◌-◌, ◌*◌, ◌+◌, rules, arith, sym, ◌∙◌, w32, SFits, to_z-of_z}
use Rattle.wrap32.proofs.Laws.{read_back, add_w-fits, shr-fits}
use Rattle.lifting.specs.Lift.{at}
use Rattle.undoing.proofs.UndoLaws.{around-first, around-inner, quarter-fits}
use Rattle.undoing.proofs.around_at.Goals as goal

pub returns-then-x-eq0 : goal.returns-then-x-eq0
returns-then-x-eq0 c =
    let s = c.args in
    let f1 : SFits w32 (at s.row.now 1) = search rules in
    let f2 : SFits w32 (at s.next.now 1) = search rules in
    let e = read_back (simp to_z-of_z at c.wrapping_add.ensures) (add_w-fits _ _) in
    rw e (to_z-of_z (shr-fits 2 (add_w-fits _ _))) ∙ sym (around-first s.row.now s.next.now s.x (search rules))

pub returns : goal.returns
returns c =
    let s = c.args in
    let r = s.row.now in
    let n = s.next.now in
    let x = s.x in
    let f1 : SFits w32 (at r (2 * x - 1)) = search rules in
    let f2 : SFits w32 (at n (2 * x - 1)) = search rules in
    let f3 : SFits w32 (at r (2 * x + 1)) = search rules in
    let f4 : SFits w32 (at n (2 * x + 1)) = search rules in
    read_back (simp to_z-of_z at c.quarter_of.ensures) (quarter-fits _ _ _ _) ∙ sym (around-inner r n x (omega arith))
