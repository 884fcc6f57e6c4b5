-- `ring::step_half` meets its contract. Assumes nothing.
use Rattle.std.proofs.Common.{◌≡◌, ◌+◌, ◌-◌, sym, arith}
use Rattle.lists.specs.Lists.{part}
use Rattle.lists.proofs.Tab.{part-back, length-tab, length_part}
use Rattle.lifting.specs.Lift.{step_row}
use Rattle.lifting.proofs.LiftLaws.{part_before}
use Rattle.ring.proofs.step_half.Goals as goal

pub returns : goal.returns
returns g c =
    let s = c.args in
    let n = s.c in
    let l = s.ring.now in
    let r = c.requires in
    let b = c.split_at_mut-before.ensures in
    let na : s.a + n - s.a ≡ n = omega arith in
    let nb : s.b + n - s.b ≡ n = omega arith in
    let nh : s.high + n - s.high ≡ n = omega arith in
    let e = rw (b.front, b.back, length_part l s.to n r.0, na, nb, nh, part_before l s.to s.a n (omega arith) (omega arith), part_before l s.to s.b n (omega arith) (omega arith)) at c.step_row.ensures in
    rw (b.front, b.back)
    (part-back l _ (step_row g.S.Step.step n (part s.work.now s.high n) (part l s.a n) (part l s.b n)) s.to n e (sym (length-tab n _)))
