-- `lifting::step_in` meets its contract. Assumes nothing.
use Rattle.std.proofs.Common.{◌≡◌, ℕ, ◌+◌, length, rules, arith, ◌∙◌, w32, SFits, to_z-of_z}
use Rattle.lists.specs.Lists.{part}
use Rattle.lists.proofs.Put.{put-start, put_step}
use Rattle.lifting.specs.Lift.{at, step_at}
use Rattle.lifting.proofs.LiftLaws.{clear_read}
use Rattle.lifting.proofs.step_in.Goals as goal

pub loop-x-init : goal.loop-x-init
loop-x-init g c = put-start c.args.ring.now c.args.to _

pub loop-x-preserved : goal.loop-x-preserved
loop-x-preserved g c =
    let s = c.args in
    let l = s.ring.now in
    let m = c.loop-x.ring in
    let u = s.row.now in
    let n = length u in
    let x = c.loop-x.x in
    let p = c.requires in
    let e = c.loop-x.invariant in
    let f1 : SFits w32 (at u x) = search rules in
    let f2 : SFits w32 (at m (s.a + x)) = search rules in
    let f3 : SFits w32 (at m (s.b + x)) = search rules in
    let f4 : SFits w32 c.step.result = search rules in
    let r = to_z-of_z f4 ∙ (simp to_z-of_z at c.step.ensures) in
    let step = g.S.Step.step in
    let h = step_at step u (part l s.a n) (part l s.b n) in
    let k = λ (o : ℕ). clear_read l m s.to n x o h e (omega arith) (omega arith) in
    put_step l m s.to x h _ e (omega arith) (r ∙ (λ i. step (at u x) (k s.a p.clear.0 i) (k s.b p.clear.1 i)))

pub returns : goal.returns
returns g c =
    let e : c.loop-x.x ≡ length c.args.row.now = omega arith in
    rw e at c.loop-x.invariant
