-- `passes::pass::Pass::last_into_ring` meets its contract. Assumes nothing.
use Rattle.std.proofs.Common.{◌≤◌, length, sym, ◌∙◌, arith}
use Rattle.passes.specs.Plan.{three_rows}
use Rattle.passes.proofs.PlaceLaws.{pair-in}
use Rattle.passes.proofs.LeadLaws.{end-put, high_end}
use Rattle.passes.proofs.pass.Pass.last_into_ring.Goals as goal

pub emit-requires : goal.emit-requires
emit-requires c =
    let s = c.args in
    let p = c.requires in
    let q = pair-in s.out s.pairs s.self.now.g.c s.self.now.g.h p.3.some in
    (omega (arith, c.pair_at.ensures, q.1, p.3.room), omega (arith, c.start-t.auto.ring, c.end_pair.auto.ring, p.3.three))

pub returns : goal.returns
returns c =
    let s = c.args in
    let p = c.requires in
    let g = s.self.now.g in
    let w = s.work.now in
    let b = c.start-t in
    let d = c.end_pair in
    let x = b.ensures.0 in
    let e = b.ensures.1 in
    let room : three_rows g.c ≤ length b.new.ring = omega (arith, b.auto.ring, p.3.three) in
    let at = rw e at (x.highs (omega (arith, e, p.2))) in
    let low = rw (p.0, e) at x.begun in
    let z = end-put g s.self.now.m w b.new.ring d.new.ring b.result.at g.h b.result.a _ _ at room (low p.1) d.ensures in
    let k = high_end g s.self.now.m w g.h p.1 (omega arith) in
    rw (c.pair_at.ensures, z.0 ∙ sym k.0, z.1 ∙ sym k.1) at c.emit.ensures
