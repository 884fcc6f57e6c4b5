-- `green::full_row` meets its contract: the first 2 x places hold the formula. Assumes nothing.
use Rattle.std.proofs.Common.{◌≡◌, ◌-◌, w32, sym, ◌∙◌, arith, to_z, of_z}
use Rattle.std.proofs.lemmas.Grind.{common_steps}
use Rattle.std.proofs.lemmas.Int.{to_z-of_z}
use Rattle.lifting.specs.Lift.{at}
use Rattle.lists.proofs.Tab.{fill_start, fill-pair}
use Rattle.green.specs.Green.{even_of, first_of, full_at}
use Rattle.green.proofs.GreenLaws.{full-even, full-odd, full-inner}
use Rattle.green.proofs.full_row.Goals as goal

pub loop-x-init : goal.loop-x-init
loop-x-init c =
    let d = c.args.d.now in
    let here = c.args.here.now in
    let next = c.args.next.now in
    let even : to_z w32 (of_z w32 c.first_one.result) ≡ first_of (at d 0) (at here 0) (at next 0) = grind (arith, common_steps, to_z-of_z) in
    let odd : to_z w32 (of_z w32 (at here 0)) ≡ at here 0 = grind (arith, common_steps, to_z-of_z) in
    fill-pair c.args.dst.now c.args.dst.now 0 (full_at here next d) _ _ (fill_start _ _) (omega arith) (even ∙ sym (full-even here next d 0)) (odd ∙ full-odd here next d 0)

pub loop-x-preserved : goal.loop-x-preserved
loop-x-preserved c =
    let d = c.args.d.now in
    let here = c.args.here.now in
    let next = c.args.next.now in
    let x = c.loop-x.x in
    let even : to_z w32 (of_z w32 c.even_one.result) ≡ even_of (at d x) (at here (x - 1)) (at next (x - 1)) (at here x) (at next x) = grind (arith, common_steps, to_z-of_z) in
    let odd : to_z w32 (of_z w32 (at here x)) ≡ at here x = grind (arith, common_steps, to_z-of_z) in
    fill-pair c.args.dst.now c.loop-x.dst x (full_at here next d) _ _ c.loop-x.invariant (omega arith) (even ∙ full-inner here next d x (omega arith)) (odd ∙ full-odd here next d x)
