-- `returning::undo_edges` meets its contract: the numbers before z have E undone, and are checked. Assumes nothing.
use Rattle.std.proofs.Common.{rules, ◌≡◌, ◌∙◌, sym, ap, ℕ, ℤ, pos, w32, Option, SFits}
use Rattle.std.specs.Option.{unwrap_or}
use borrow.Author.Rules.{sfits_of}
use Rattle.wrap32.specs.Edge.{edge_back}
use Rattle.wrap32.proofs.Laws.{read_back}
use Rattle.lists.proofs.Tab.{fill_start, fill_step}
use Rattle.lifting.specs.Lift.{at}
use Rattle.refusals.specs.Number.{code_of}
use Rattle.refusals.proofs.Laws.{code_of-and}
use Rattle.format.specs.Table.{E}
use Rattle.format.specs.Writing.{band_refusal}
use Rattle.format.proofs.TurnLaws.{each_none}
use Rattle.returning.proofs.FaultLaws.{each_next, fill-here, value-or, value-refused}
use Rattle.returning.specs.Return.{value_back}
use Rattle.returning.proofs.undo_edges.Goals as goal

pub loop-z-init : goal.loop-z-init
loop-z-init c = let s = c.args in (fill_start s.row.now _, sym (each_none (λ k. band_refusal s.odd (E 0 0) (at s.row.now k))))

pub loop-z-preserved : goal.loop-z-preserved
loop-z-preserved c =
    let s = c.args in
    let l = s.row.now in
    let m = c.loop-z.row in
    let x = c.loop-z.z-index in
    let f : ℕ → ℤ = λ k. edge_back s.odd (at l k) in
    let k : at m x ≡ at l x = fill-here l m x f c.loop-z.invariant.0 in
    let o : c.edge_back-v.result ≡ value_back s.odd (at l x) = search rules in
    let v : c.unwrap_or.result ≡ f x = c.unwrap_or.ensures ∙ ap (λ (p : Option ℤ). unwrap_or p (pos 0)) o ∙ value-or s.odd (at l x) in
    let u : SFits w32 c.unwrap_or.result = sfits_of c.unwrap_or.type_inv in
    let r = value-refused s.odd (at l x) (code_of c.check_edge.result) (rw o at c.check_edge.ensures) in (
      fill_step l m x f _ c.loop-z.invariant.0 (search rules) (read_back v (rw v at u)),
      ap code_of c.and-checked.ensures ∙ code_of-and c.loop-z.checked c.check_edge.result ∙ each_next (λ k. band_refusal s.odd (E 0 0) (at l k)) x _ _ c.loop-z.invariant.1 r,
    )
