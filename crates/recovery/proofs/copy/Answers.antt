-- `recovery::copy` meets its contract. Assumes nothing.
use Rattle.std.proofs.Common.{rules, arith, ◌≡◌, sym, ap, ◌∙◌, w32, SFits, to_z-of_z}
use lib.IntN.{pos}
use Rattle.lists.specs.Lists.{put_at}
use Rattle.lists.proofs.Tab.{tab-same, part-tab}
use Rattle.lists.proofs.Put.{put-start, put_step}
use Rattle.lifting.specs.Lift.{at}
use Rattle.recovery.proofs.copy.Goals as goal

pub loop-k-init : goal.loop-k-init
loop-k-init c = put-start c.args.work.now c.args.to _

pub loop-k-preserved : goal.loop-k-preserved
loop-k-preserved c =
    let s = c.args in
    let k = c.loop-k.k in
    let fits : SFits w32 (at s.plane.now k) = search rules in
    put_step s.work.now c.loop-k.work s.to k (at s.plane.now) _ c.loop-k.invariant (omega arith) (to_z-of_z fits)

pub returns : goal.returns
returns c =
    let s = c.args in
    let p = s.plane.now in
    let all : c.loop-k.k ≡ s.n = omega arith in
    (rw all at c.loop-k.invariant)
    ∙ ap (put_at s.work.now s.to) (tab-same s.n _ _ (λ k _. ap (at p) (omega arith)) ∙ sym (part-tab p 0 s.n (pos 0) (omega arith)))
