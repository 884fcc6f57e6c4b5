-- `lifting::integrate_row` meets its contract. Assumes nothing.
use Rattle.std.proofs.Common.{◌≡◌, ℕ, suc, ◌+◌, ℤ, rules, arith, sym, ap, ◌∙◌, w32, SFits, to_z, to_z-of_z}
use Rattle.std.specs.Int.{w16}
use Rattle.wrap32.specs.Cut.{cut, add_w}
use Rattle.wrap32.specs.Arithmetic.{wrapping}
use Rattle.wrap32.proofs.Laws.{read_back}
use Rattle.lists.proofs.Tab.{fill_start, fill_step, fill_done}
use Rattle.format.specs.Synthesis.{sum_of}
use Rattle.lifting.specs.Lift.{at, sum_at}
use Rattle.lifting.proofs.LiftLaws.{fill-ahead, sum_fits, sum-none, sum-next}
use Rattle.lifting.proofs.integrate_row.Goals as goal

pub loop-x-init : goal.loop-x-init
loop-x-init c = record { sum = sym (sum-none _); filled = fill_start _ _ }

pub loop-x-preserved : goal.loop-x-preserved
loop-x-preserved c =
    let l = c.args.row.now in
    let m = c.loop-x.row in
    let x = c.loop-x.x-index in
    let i = c.loop-x.invariant in
    let f : ℕ → ℤ = λ k. cut w16 (at l k) in
    let g : SFits w32 (at m x) = search rules in
    let a : to_z w32 c.loop-x.acc-bits ≡ sum_of wrapping f x = i.sum in
    let b = simp to_z-of_z at c.sign16.ensures in
    let d = b ∙ ap (cut w16) (fill-ahead l m x (sum_at l) i.filled) in
    let k : SFits w32 c.sign16.result = search rules in
    let v : c.wrapping_add-acc.result ≡ sum_of wrapping f (suc x) =
    simp to_z-of_z at c.wrapping_add-acc.ensures ∙ (λ j. add_w (a j) (d j)) ∙ sym (sum-next f x) in
    let n : x + 1 ≡ suc x = omega arith in
    let r = read_back v (sum_fits f (suc x)) in
    record { sum = rw n r; filled = fill_step l m x (sum_at l) _ i.filled (omega arith) r }

pub returns : goal.returns
returns c =
    let l = c.args.row.now in
    fill_done l _ c.loop-x.x-index _ (sum_at l) c.loop-x.invariant.filled (omega arith) (omega arith)
