-- `passes::pass::Pass::start` meets its contract. Assumes nothing.
use Rattle.std.proofs.Common.{◌≡◌, ◌-◌, min, refl, inl, arith}
use Rattle.passes.proofs.TurnLaws.{begun-put}
use Rattle.passes.proofs.pass.Pass.start.Goals as goal

pub returns : goal.returns
returns c =
    let s = c.args in
    let p = c.requires in
    let n = c.near-at.ensures in
    let long = c.low_pair.auto.ring in
    let k : min s.y (s.self.now.m - 1) ≡ s.y = omega (arith, p.3) in (
      record {
        slots = (omega (arith, long, p.1), omega arith, omega arith, inl (omega arith));
        highs = λ _. rw k at n.1;
        begun = begun-put s.self.now.g s.self.now.m s.work.now s.ring.now c.low_pair.new.ring s.self.now.leads c.prior.result c.near-at.result s.y 0 s.self.now.covered n.0 c.prior.ensures n.1 (omega (arith, p.1)) c.low_pair.ensures;
      },
      refl,
      refl,
    )
