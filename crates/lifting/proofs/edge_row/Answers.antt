-- `lifting::edge_row` meets its contract. Assumes nothing.
use Rattle.std.proofs.Common.{rules, arith, ap, ◌∙◌, w32, SFits, to_z-of_z}
use Rattle.wrap32.specs.Arithmetic.{wrapping}
use Rattle.wrap32.specs.Edge.{edge_detail}
use Rattle.wrap32.proofs.Laws.{read_back, edge-fits}
use Rattle.lists.proofs.Tab.{fill_start, fill_step, fill_done}
use Rattle.lifting.specs.Lift.{at, edge_at}
use Rattle.lifting.proofs.LiftLaws.{fill-ahead}
use Rattle.lifting.proofs.edge_row.Goals as goal

pub loop-x-init : goal.loop-x-init
loop-x-init c = fill_start _ _

pub loop-x-preserved : goal.loop-x-preserved
loop-x-preserved c =
    let s = c.args in
    let x = c.loop-x.x-index in
    let i = c.loop-x.invariant in
    let f : SFits w32 (at c.loop-x.row x) = search rules in
    let e = read_back (simp to_z-of_z at c.edge_detail.ensures) (edge-fits _ _) in
    let k = fill-ahead s.row.now c.loop-x.row x (edge_at s.odd s.row.now) i in
    fill_step s.row.now _ x (edge_at s.odd s.row.now) _ i (omega arith) (e ∙ ap (edge_detail wrapping s.odd) k)

pub returns : goal.returns
returns c =
    let s = c.args in
    fill_done s.row.now _ c.loop-x.x-index _ (edge_at s.odd s.row.now) c.loop-x.invariant (omega arith) (omega arith)
