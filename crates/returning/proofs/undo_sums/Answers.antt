-- `returning::undo_sums` meets its contract: the steps up to z stand there, and are checked. Assumes nothing.
use Rattle.std.proofs.Common.{rules, ◌≡◌, ◌∙◌, refl, sym, ap, ℕ, ℤ, w16, w32, add-one, to_z, of_z, SFits}
use borrow.Author.Rules.{sfits_of}
use Rattle.wrap32.specs.Cut.{cut, sub_w}
use Rattle.wrap32.proofs.Laws.{read_back}
use Rattle.lists.proofs.Tab.{fill_start, fill_step}
use Rattle.lifting.specs.Lift.{at}
use Rattle.refusals.specs.Number.{code_of}
use Rattle.refusals.proofs.Laws.{code_of-and}
use Rattle.format.specs.Recovery.{before}
use Rattle.format.specs.Writing.{too_far}
use Rattle.format.proofs.TurnLaws.{each_none}
use Rattle.returning.specs.Return.{step_of}
use Rattle.returning.proofs.FaultLaws.{each_next, fill-here}
use Rattle.returning.proofs.undo_sums.Goals as goal

pub loop-z-init : goal.loop-z-init
loop-z-init c = let l = c.args.row.now in (refl, fill_start l _, sym (each_none (λ k. too_far (step_of l k))))

pub loop-z-preserved : goal.loop-z-preserved
loop-z-preserved c =
    let l = c.args.row.now in
    let m = c.loop-z.row in
    let x = c.loop-z.z-index in
    let f : ℕ → ℤ = λ k. cut w16 (step_of l k) in
    let k : at m x ≡ at l x = fill-here l m x f c.loop-z.invariant.1 in
    let b : to_z w32 (of_z w32 (at m x)) ≡ at m x = search rules in
    let w : c.wrapping_sub-d.result ≡ sub_w (at m x) (to_z w32 c.loop-z.last-bits) = search rules in
    let q : to_z w32 c.loop-z.last-bits ≡ before (at l) x = c.loop-z.invariant.0 in
    let d : c.wrapping_sub-d.result ≡ step_of l x = w ∙ (λ i. sub_w (k i) (q i)) in
    let g : c.sign16.result ≡ cut w16 c.wrapping_sub-d.result = search rules in
    let v : c.sign16.result ≡ f x = g ∙ ap (cut w16) d in
    let u : SFits w32 c.sign16.result = sfits_of c.sign16.type_inv in
    let t : code_of c.check_step.result ≡ too_far c.wrapping_sub-d.result = search rules in (
      rw add-one (b ∙ k),
      fill_step l m x f _ c.loop-z.invariant.1 (search rules) (read_back v (rw v at u)),
      ap code_of c.and-checked.ensures ∙ code_of-and c.loop-z.checked c.check_step.result ∙ each_next (λ j. too_far (step_of l j)) x _ _ c.loop-z.invariant.2 (t ∙ ap too_far d),
    )
