-- `passes::pass::Pass::into_plane` meets its contract: k pairs of rows are written. Assumes nothing.
use Rattle.std.proofs.Common.{◌≡◌, ℕ, ◌+◌, ◌*◌, ap, ◌∙◌, arith}
use Rattle.lists.proofs.Rows.{over-start, over-step, over_done}
use Rattle.passes.specs.Level.{passed_two}
use Rattle.passes.specs.Turn.{pair_out}
use Rattle.passes.proofs.TurnLaws.{length-passed}
use Rattle.passes.proofs.pass.Pass.into_plane.Goals as goal

pub loop-k-init : goal.loop-k-init
loop-k-init c =
    let s = c.args in
    let p = s.self.now in
    (omega (arith, c.start-t.ensures.1), c.start-t.ensures.0, over-start (4 * p.g.c) (λ (j : ℕ). passed_two p.leads p.g p.m s.work.now (s.from + j)) (λ j. length-passed p.leads p.g p.m s.work.now (s.from + j)) s.plane.now)

pub loop-k-preserved : goal.loop-k-preserved
loop-k-preserved c =
    let s = c.args in
    let p = s.self.now in
    let w = s.work.now in
    let i = c.loop-k.invariant in
    let t = c.loop-k.t in
    let made : pair_out p.leads p.g.c c.step-next.new.ring t.a t.b ≡ passed_two p.leads p.g p.m w (s.from + c.loop-k.k) =
    c.step-next.ensures.made ∙ ap (passed_two p.leads p.g p.m w) i.0 in (
      omega (arith, i.0, c.step-next.ensures.next.1),
      c.step-next.ensures.next.0,
      c.put.ensures
          ∙ over-step (4 * p.g.c) (λ (j : ℕ). passed_two p.leads p.g p.m w (s.from + j)) (λ j. length-passed p.leads p.g p.m w (s.from + j)) s.plane.now c.loop-k.plane _ c.loop-k.k i.2 made,
    )

pub returns : goal.returns
returns c =
    let s = c.args in
    let p = s.self.now in
    let w = s.work.now in
    over_done (4 * p.g.c) (λ (j : ℕ). passed_two p.leads p.g p.m w (s.from + j)) (λ j. length-passed p.leads p.g p.m w (s.from + j)) s.plane.now _ c.loop-k.k s.count c.loop-k.invariant.2 (omega arith) c.requires.3
