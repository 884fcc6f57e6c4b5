-- `passes::pass::Pass::into_ring` meets its contract: k pairs of rows are laid into the ring from out on. Assumes nothing.
use Rattle.std.proofs.Common.{◌≡◌, ℕ, ◌+◌, ◌<◌, sym, ap, ◌∙◌, arith}
use Rattle.lists.specs.Lists.{SameBelow}
use Rattle.lists.proofs.Laid.{laid-start, laid-step}
use Rattle.passes.specs.Level.{passed_two, pair_at, pairs_in}
use Rattle.passes.specs.Turn.{pair_out}
use Rattle.passes.proofs.PlaceLaws.{pair-in}
use Rattle.passes.proofs.PassLaws.{stands-more}
use Rattle.passes.proofs.TurnLaws.{low_start, passed-same, ready-same, pair-room, pairs-same}
use Rattle.passes.proofs.pass.Pass.into_ring.Goals as goal

pub returns-then-count-eq0 : goal.returns-then-count-eq0
returns-then-count-eq0 c =
    let s = c.args in
    let p = s.self.now in
    rw c.if-count-eq0.true (laid-start (λ (j : ℕ). pair_at s.out s.pairs p.g.c (s.from + j)) (λ (j : ℕ). passed_two p.leads p.g p.m s.work.now (s.from + j)) s.work.now)

pub start-t-requires : goal.start-t-requires
start-t-requires c =
    let s = c.args in
    let p = c.requires in
    let t : s.from < s.self.now.g.h = omega (arith, p.0, c.if-count-eq0.false) in
    (stands-more s.self.now.g s.self.now.m s.out _ (omega (arith, p.1.room)) p.1.stands, p.1.three, low_start s.self.now.leads s.from s.self.now.g.h t, omega (arith, t, s.self.now.covered))

pub loop-k-init : goal.loop-k-init
loop-k-init c =
    let s = c.args in
    let p = s.self.now in
    (omega (arith, c.start-t.ensures.1), c.start-t.ensures.0, laid-start (λ (j : ℕ). pair_at s.out s.pairs p.g.c (s.from + j)) (λ (j : ℕ). passed_two p.leads p.g p.m s.work.now (s.from + j)) s.work.now)

pub put-requires : goal.put-requires
put-requires c =
    let s = c.args in
    let p = c.requires in
    let g = s.self.now.g in
    (rw c.pair_at.ensures (omega (arith, c.loop-k.auto.work, pair-room s.self.now.leads g s.self.now.m s.out s.pairs s.work.now s.from p.1.some p.1.room c.loop-k.k)), rw c.step-next.auto.ring c.loop-k.invariant.1.slots)

pub loop-k-preserved : goal.loop-k-preserved
loop-k-preserved c =
    let s = c.args in
    let p = s.self.now in
    let r = c.requires in
    let l = s.work.now in
    let i = c.loop-k.invariant in
    let k = c.loop-k.k in
    let w = c.loop-k.work in
    let y = s.from + k in
    let t = c.loop-k.t in
    let n = c.step-next.ensures in
    let v = c.put.new.out in
    let q = pair-in s.out s.pairs p.g.c y r.1.some in
    let below : y < p.g.h = omega (arith, c.loop-k-test.true, r.0) in
    let first : SameBelow s.out w l = rw i.2 (pairs-same p.leads p.g p.m s.out s.pairs l s.from r.1.some r.1.room k) in
    let made : pair_out p.leads p.g.c c.step-next.new.ring t.a t.b ≡ passed_two p.leads p.g p.m l y =
    n.made ∙ ap (passed_two p.leads p.g p.m w) i.0 ∙ passed-same p.g p.m w l s.out first p.covered r.1.stands p.leads y below in
    let all : v ≡ pairs_in p.leads p.g p.m s.out s.pairs l s.from (k + 1) =
    c.put.ensures ∙ laid-step (λ (j : ℕ). pair_at s.out s.pairs p.g.c (s.from + j)) (λ (j : ℕ). passed_two p.leads p.g p.m l (s.from + j)) l w _ k _ i.2 c.pair_at.ensures made in
    let last : SameBelow s.out v l = rw all (pairs-same p.leads p.g p.m s.out s.pairs l s.from r.1.some r.1.room (k + 1)) in
    let same : SameBelow s.out v w = λ a m b. last a m b ∙ sym (first a m b) in
    (omega (arith, i.0, n.next.1), ready-same p v w c.step-next.new.ring c.step-next.result s.out same p.covered r.1.stands (omega (arith, n.next.1, i.0, below)) n.next.0, all)
