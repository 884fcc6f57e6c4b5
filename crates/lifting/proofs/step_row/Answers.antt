-- `lifting::step_row` meets its contract. Assumes nothing.
use Rattle.std.proofs.Common.{rules, arith, ◌∙◌, w32, SFits, to_z-of_z}
use Rattle.lists.proofs.Tab.{fill_start, fill_step, fill_done}
use Rattle.lifting.specs.Lift.{at, step_at}
use Rattle.lifting.proofs.step_row.Goals as goal

pub loop-x-init : goal.loop-x-init
loop-x-init g c = fill_start _ _

pub loop-x-preserved : goal.loop-x-preserved
loop-x-preserved g c =
    let s = c.args in
    let f1 : SFits w32 (at s.row.now c.loop-x.x) = search rules in
    let f2 : SFits w32 (at s.a.now c.loop-x.x) = search rules in
    let f3 : SFits w32 (at s.b.now c.loop-x.x) = search rules in
    let f4 : SFits w32 c.step.result = search rules in
    let r = to_z-of_z f4 ∙ (simp to_z-of_z at c.step.ensures) in
    fill_step s.dst.now _ _ (step_at g.S.Step.step s.row.now s.a.now s.b.now) _ c.loop-x.invariant (omega arith) r

pub returns : goal.returns
returns g c =
    let s = c.args in
    fill_done s.dst.now _ c.loop-x.x _ (step_at g.S.Step.step s.row.now s.a.now s.b.now) c.loop-x.invariant (omega arith) (omega arith)
