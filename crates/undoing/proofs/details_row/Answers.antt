-- `undoing::details_row` meets its contract. Assumes nothing.
use Rattle.std.proofs.Common.{◌*◌, rules, arith, ap, ◌∙◌, w32, SFits, to_z-of_z}
use Rattle.wrap32.specs.Cut.{sub_w}
use Rattle.wrap32.proofs.Laws.{read_back, sub_w-fits}
use Rattle.lists.proofs.Tab.{fill_start, fill_step, fill_done}
use Rattle.lifting.specs.Lift.{at}
use Rattle.undoing.specs.Undo.{detail_of}
use Rattle.undoing.proofs.details_row.Goals as goal

pub loop-x-init : goal.loop-x-init
loop-x-init c = fill_start _ _

pub loop-x-preserved : goal.loop-x-preserved
loop-x-preserved c =
    let s = c.args in
    let x = c.loop-x.x in
    let f1 : SFits w32 (at s.row.now (2 * x)) = search rules in
    let f2 : SFits w32 c.around_at.result = search rules in
    let e = read_back (simp to_z-of_z at c.wrapping_sub.ensures) (sub_w-fits _ _) in
    fill_step s.out.now c.loop-x.out x (detail_of s.row.now s.next.now) _ c.loop-x.invariant (omega arith) (e ∙ ap (sub_w (at s.row.now (2 * x))) c.around_at.ensures)

pub returns : goal.returns
returns c =
    let s = c.args in
    fill_done s.out.now _ c.loop-x.x _ (detail_of s.row.now s.next.now) c.loop-x.invariant (omega arith) (omega arith)
