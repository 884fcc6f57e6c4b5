-- `passes::pass::Pass::step` meets its contract. Assumes nothing.
use Rattle.std.proofs.Common.{◌≡◌, ◌+◌, ◌-◌, ◌*◌, ◌≤◌, length, arith}
use Rattle.passes.proofs.PassLaws.{even-keeps}
use Rattle.passes.proofs.TurnLaws.{begun-put, begun_kept}
use Rattle.passes.proofs.pass.Pass.step.Goals as goal

pub high-requires-clause-ready : goal.high-requires-clause-ready
high-requires-clause-ready c =
    let s = c.args in
    let g = s.self.now.g in
    let p = c.requires in
    let o = p.2.slots in
    let d = c.low_pair in
    let room : s.t.b + 2 * g.c ≤ length s.ring.now = omega (arith, o.0, o.2) in (
      p.0,
      p.1,
      record {
        slots = rw d.auto.ring o;
        highs = p.2.highs;
        begun = begun_kept g s.self.now.m s.work.now s.ring.now d.new.ring s.self.now.leads s.t.y s.t.a (λ u v. even-keeps g s.work.now s.ring.now d.new.ring s.t.at c.near-next.result s.t.b s.t.a u v room d.ensures o.3) p.2.begun;
      },
    )

pub high-requires-clause-next : goal.high-requires-clause-next
high-requires-clause-next c =
    let s = c.args in
    let g = s.self.now.g in
    let p = c.requires in
    let o = p.2.slots in
    let n = c.near-next.ensures in
    let k : s.t.y + 1 - 1 ≡ s.t.y = omega arith in
    let x = p.2.highs (omega (arith, s.self.now.covered, p.1)) in
    begun-put g s.self.now.m s.work.now s.ring.now c.low_pair.new.ring s.self.now.leads s.t.at c.near-next.result (s.t.y + 1) s.t.b s.self.now.covered n.0 (rw k x) n.1 (omega (arith, o.0, o.2)) c.low_pair.ensures
