-- `records::next_records` meets its contract: k records are laid, each into its slot. Assumes nothing.
use Rattle.std.proofs.Common.{◌≡◌, refl, ap, ◌∙◌, ◌+◌, ◌^◌, ◌<◌, arith}
use Rattle.lists.specs.Lists.{laid}
use Rattle.lists.proofs.Laid.{laid-start, laid-step}
use Rattle.records.specs.Counted.{Few}
use Rattle.records.specs.Record.{walked_by, values_from}
use Rattle.records.specs.Finished.{finished_by}
use Rattle.records.specs.declared.Walked.{Walked}
use Rattle.records.proofs.Packet.{walked_none, walked_step, walked_near}
use Rattle.records.proofs.next_records.Invariants.{done, placed}
use Rattle.records.proofs.next_records.Goals as goal

pub loop-k-init : goal.loop-k-init
loop-k-init c =
    let s = c.args in
    let p = s.packet.now in
    let start = laid-start (placed p s.from s.h) (done p s.from s.v s.h s.f) s.work.now in
    (refl, walked_none p s.h.m s.h.cols s.from s.v, start)

pub next_record-r-requires : goal.next_record-r-requires
next_record-r-requires c =
    let i = c.loop-k.invariant in
    let s = c.args in
    let p = c.requires in
    let t = c.loop-k-test.true in
    let n = walked_near s.packet.now s.h.m s.h.cols s.from s.v c.loop-k.k in
    let o = ap (λ (r : Walked). r.offset) i.1 in
    let near : c.loop-k.r.offset < 2 ^ 36 = omega (arith, t, o, n.offset, p.in_bounds.0, p.in_bounds.1) in
    let few : Few (2 ^ 60) c.loop-k.r.counts =
    record {
      broken = omega (arith, t, ap (λ (r : Walked). r.counts.broken) i.1, n.broken, p.in_bounds.0, p.in_bounds.2.broken);
      spent = omega (arith, t, ap (λ (r : Walked). r.counts.spent) i.1, n.spent, p.in_bounds.0, p.in_bounds.2.spent);
      bits = omega (arith, t, ap (λ (r : Walked). r.counts.bits) i.1, n.bits, p.in_bounds.0, p.in_bounds.2.bits);
    } in
    record {
      in_bounds = (omega (arith, t, p.in_bounds.0), near, few, p.in_bounds.3);
      shape = (p.shape.0, p.shape.1, omega (arith, t, p.shape.2), omega (arith, i.0, p.shape.3));
    }

pub loop-k-preserved : goal.loop-k-preserved
loop-k-preserved c =
    let i = c.loop-k.invariant in
    let s = c.args in
    let p = s.packet.now in
    let h = s.h in
    let d = c.next_record-r in
    let k = c.loop-k.k in
    let value = ap (λ (r : Walked). finished_by s.f h.cols (s.from + k) (values_from p h.m h.cols (s.from + k) r.offset)) i.1 in (
      d.auto.work ∙ i.0,
      d.ensures.value ∙ walked_step p h.m h.cols s.from s.v c.loop-k.r k i.1,
      d.ensures.work_after ∙ laid-step (placed p s.from h) (done p s.from s.v h s.f) s.work.now c.loop-k.work _ k _ i.2 refl value,
    )

pub returns : goal.returns
returns c =
    let s = c.args in
    let p = s.packet.now in
    let h = s.h in
    let i = c.loop-k.invariant in
    let k : c.loop-k.k ≡ s.count = omega (arith, c.loop-k-test.false) in
    let all = ap (laid (placed p s.from h) (done p s.from s.v h s.f) s.work.now) k in
    record {
      value = i.1 ∙ ap (walked_by p h.m h.cols s.from s.v) k;
      work_after = i.2 ∙ all;
    }

pub overflow_add-from : goal.overflow_add-from
overflow_add-from c = omega (arith, c.loop-k-test.true, c.requires.in_bounds.0)
