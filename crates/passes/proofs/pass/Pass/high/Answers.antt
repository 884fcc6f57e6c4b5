-- `passes::pass::Pass::high` meets its contract. Assumes nothing.
use Rattle.std.proofs.Common.{arith}
use Rattle.passes.proofs.TurnLaws.{lead-first, lead-mid, plain-mid, plain-last}
use Rattle.passes.proofs.pass.Pass.high.Goals as goal

pub returns-then-t-gt0 : goal.returns-then-t-gt0
returns-then-t-gt0 c =
    let s = c.args in
    let p = c.requires.ready in
    let d = rw c.if-self.true at p.2.begun in
    let n = rw c.if-self.true at c.requires.next in
    rw c.if-self.true (lead-mid s.self.now.g s.self.now.m s.work.now s.ring.now c.high_pair.new.ring s.t.at s.t.y s.t.a s.t.b p.1 (p.2.highs (omega arith)) p.2.slots c.if-t-gt0.true d n c.high_pair.ensures)

pub returns-else-t-gt0 : goal.returns-else-t-gt0
returns-else-t-gt0 c =
    let s = c.args in
    let p = c.requires.ready in
    let n = rw c.if-self.true at c.requires.next in
    rw c.if-self.true (lead-first s.self.now.g s.self.now.m s.work.now s.ring.now c.end_pair.new.ring s.t.at s.t.y s.t.a s.t.b p.1 (p.2.highs (omega arith)) p.2.slots c.if-t-gt0.false n c.end_pair.ensures)

pub returns-then-t-self : goal.returns-then-t-self
returns-then-t-self c =
    let s = c.args in
    let p = c.requires.ready in
    let d = rw c.if-self.false at p.2.begun in
    let n = rw c.if-self.false at c.requires.next in
    rw c.if-self.false (plain-mid s.self.now.g s.self.now.m s.work.now s.ring.now c.high_pair-then-t-self.new.ring s.t.at s.t.y s.t.a s.t.b p.1 (p.2.highs (omega arith)) p.2.slots c.if-t-self.true d n c.high_pair-then-t-self.ensures)

pub returns-else-t-self : goal.returns-else-t-self
returns-else-t-self c =
    let s = c.args in
    let p = c.requires.ready in
    let d = rw c.if-self.false at p.2.begun in
    rw c.if-self.false (plain-last s.self.now.g s.self.now.m s.work.now s.ring.now c.high_pair-else-t-self.new.ring s.t.at s.t.y s.t.a s.t.b p.1 (p.2.highs (omega arith)) p.2.slots c.if-t-self.false d c.high_pair-else-t-self.ensures)
