-- `levels::steps_in` meets its contract. Assumes nothing.
use Rattle.std.proofs.Common.{◌∙◌, ◌+◌, ◌-◌, arith}
use Rattle.std.proofs.lemmas.Bool.{lt-ltb}
use Rattle.lists.specs.Lists.{put_at, SameBelow}
use Rattle.passes.specs.Level.{pair_at}
use Rattle.passes.proofs.TurnLaws.{pairs-same}
use Rattle.levels.proofs.StepLaws.{last-same}
use Rattle.levels.proofs.steps_in.Goals as goal

pub returns-then-h-from : goal.returns-then-h-from
returns-then-h-from c =
    let s = c.args in
    let p = s.p in
    let r = c.requires in
    let q = r.5 in
    let mid = c.into_ring.ensures in
    let same : SameBelow s.out c.into_ring.new.work s.work.now =
    rw mid (pairs-same p.leads p.g p.m s.out s.pairs s.work.now s.from q.some q.room (p.g.h - s.from)) in
    let row = last-same p.g p.m s.out _ s.work.now same q.stands r.0 (omega (arith, c.if-h-from.true, r.2, r.3)) in
    rw (lt-ltb p.g.h (s.from + s.count) c.if-h-from.true)
    (c.last_into_ring.ensures ∙ (λ j. put_at (mid j) (pair_at s.out s.pairs p.g.c p.g.h) (row j)))
