-- `lifting::lift_row` meets its contract. Assumes nothing.
use Rattle.std.proofs.Common.{◌≡◌, ◌+◌, ◌-◌, ◌*◌, length, rules, arith, sym, ◌∙◌, w32, SFits, to_z, to_z-of_z}
use Rattle.wrap32.proofs.Laws.{read_back}
use Rattle.lists.proofs.Tab.{fill_start, fill-pair, fill_done}
use Rattle.lifting.specs.Lift.{at, even_at, lift_at}
use Rattle.lifting.proofs.LiftLaws.{low_step-fits, high_step-fits, lift-even, even-next, odd-inner, odd-last}
use Rattle.lifting.proofs.lift_row.Goals as goal

pub loop-x-init : goal.loop-x-init
loop-x-init c =
    let s = c.args in
    let f1 : SFits w32 (at s.low.now 0) = search rules in
    let f2 : SFits w32 (at s.high.now 0) = search rules in
    record { even = read_back (simp to_z-of_z at c.low_step-cur.ensures) (low_step-fits _ _ _); filled = fill_start _ _ }

pub loop-x-preserved : goal.loop-x-preserved
loop-x-preserved c =
    let s = c.args in
    let low = s.low.now in
    let high = s.high.now in
    let w = length low in
    let x = c.loop-x.x in
    let f1 : SFits w32 (at low (x + 1)) = search rules in
    let f2 : SFits w32 (at high (x + 1)) = search rules in
    let f3 : SFits w32 (at high x) = search rules in
    let cur : to_z w32 c.loop-x.cur-bits ≡ even_at low high x = c.loop-x.invariant.even in
    let next : c.low_step-next.result ≡ even_at low high (x + 1) = (simp to_z-of_z at c.low_step-next.ensures) ∙ even-next w low high x in
    let e = read_back next (low_step-fits _ _ _) in
    let odd = read_back (rw (to_z-of_z f3, cur, e) at c.high_step.ensures) (high_step-fits _ _ _) in record {
      even = e;
      filled = fill-pair s.out.now c.loop-x.out x (lift_at w low high) _ _ c.loop-x.invariant.filled (omega arith)
          (cur ∙ sym (lift-even w low high x)) (odd ∙ odd-inner w low high x (omega arith));
    }

pub returns-after-loop-x : goal.returns-after-loop-x
returns-after-loop-x c =
    let s = c.args in
    let low = s.low.now in
    let high = s.high.now in
    let w = length low in
    let x = w - 1 in
    let same : c.loop-x.x ≡ x = omega arith in
    let f : SFits w32 (at high x) = search rules in
    let cur : to_z w32 c.loop-x.cur-bits ≡ even_at low high x = rw same at c.loop-x.invariant.even in
    let odd = read_back (rw (to_z-of_z f, cur) at c.high_step-then-w-gt0.ensures) (high_step-fits _ _ _) in
    fill_done s.out.now _ (2 * (x + 1)) (2 * w) (lift_at w low high)
    (fill-pair s.out.now c.loop-x.out x (lift_at w low high) _ _ (rw same at c.loop-x.invariant.filled) (omega arith)
    (cur ∙ sym (lift-even w low high x)) (odd ∙ odd-last w low high x (omega arith)))
    (omega arith) (omega arith)

pub returns-else-w-gt0 : goal.returns-else-w-gt0
returns-else-w-gt0 c =
    let s = c.args in
    fill_done s.out.now s.out.now 0 _ _ (fill_start _ _) (omega arith) (omega arith)
