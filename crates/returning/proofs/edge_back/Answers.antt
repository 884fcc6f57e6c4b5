-- `returning::edge_back` meets its contract. Assumes nothing.
use Rattle.std.proofs.Common.{◌≡◌, sym, ap, ◌∙◌, w32, pos, to_z, of_z, SFits, to_z-of_z}
use borrow.Author.Rules.{sfits_of}
use lib.Signed.{quot_z}
use Rattle.wrap32.specs.Arithmetic.{wrapping}
use Rattle.wrap32.specs.Edge.{edge_detail}
use Rattle.wrap32.proofs.Laws.{half-fits}
use Rattle.returning.proofs.FaultLaws.{edge-far, edge-found, edge_none, no-zero, zero-near, some-back, none-back}
use Rattle.returning.proofs.edge_back.Goals.{else-v-via-then-v+else-edge_detail-e, else-v-via-else-v}
use Rattle.returning.proofs.edge_back.Goals as goal

pub returns-then-edge_detail-e : goal.returns-then-edge_detail-e
returns-then-edge_detail-e c =
    let f = c.ranges.e in
    let h = half-fits c.args.e f in
    let g : SFits w32 c.edge_detail.result = sfits_of c.edge_detail.type_inv in
    let d = simp to_z-of_z at c.edge_detail.ensures in
    let same : c.edge_detail.result ≡ c.args.e = sym (to_z-of_z g) ∙ ap (to_z w32) c.if-edge_detail-e.true ∙ to_z-of_z f in
    let far = simp to_z-of_z at c.if-v.true in
    let e = sym d ∙ same in
    simp to_z-of_z (some-back c.args.odd c.args.e _ (edge-found c.args.odd c.args.e f far e) e)

pub returns-else-v : goal.returns-else-v
returns-else-v c =
    let o = c.args.odd in
    let e = c.args.e in
    let f = c.ranges.e in
    let h = half-fits e f in
    elim c.else-v.branch [
      | else-v-via-then-v+else-edge_detail-e w ↦
          let d = simp to_z-of_z at w.edge_detail.ensures in
          let miss : edge_detail wrapping o (quot_z e (pos 2)) ≡ e → ⊥ = λ q. w.if-edge_detail-e.false (ap (of_z w32) (d ∙ q)) in
          none-back o e (edge_none o e f miss) (λ z. miss (no-zero o e z))
      | else-v-via-else-v w ↦
          let far = simp to_z-of_z at w.if-v.false in
          none-back o e (edge-far o e f far) (zero-near e far)
    ]
