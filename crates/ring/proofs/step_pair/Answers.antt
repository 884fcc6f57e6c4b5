-- `ring::step_pair` meets its contract: what hi is made from stands as it did once lo is written. Assumes nothing.
use Rattle.std.proofs.Common.{◌≡◌, ℕ, ◌+◌, ◌≤◌, length, arith}
use Rattle.lists.specs.Lists.{part}
use Rattle.lists.proofs.Part.{put_next, part-kept}
use Rattle.lists.proofs.Tab.{length-tab}
use Rattle.lifting.specs.Lift.{step_row}
use Rattle.ring.proofs.step_pair.Goals as goal

pub returns : goal.returns
returns g c =
    let s = c.args in
    let w = s.work.now in
    let l = s.ring.now in
    let n = s.c in
    let e = c.step_half.ensures in
    let half = step_row g.S.Step.step n in
    let lo = half (part w s.cur.lh n) (part l s.a n) (part l s.b n) in
    let t : length lo ≡ n = length-tab n _ in
    let k : (o : ℕ) → o + n ≤ s.to → part c.step_half.new.ring o n ≡ part l o n = λ o b. part-kept l _ lo s.to o n e (omega arith) b in
    put_next l _ _ lo (half (part w s.cur.hh n) (part l (s.a + n) n) (part l (s.b + n) n)) s.to n t e
    (rw (k (s.a + n) (omega arith), k (s.b + n) (omega arith)) at c.step_half-2.ensures) (omega arith)
