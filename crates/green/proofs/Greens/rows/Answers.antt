-- `green::Greens::rows` meets its contract: k rows are written, and the odd greens of row from + k stand at a. Assumes nothing.
use Rattle.std.proofs.Common.{◌≡◌, sym, ap, ◌∙◌, inl, ℕ, ◌+◌, ◌*◌, ◌<◌, arith}
use Rattle.lists.proofs.Rows.{over-start, over-step}
use Rattle.passes.proofs.PassLaws.{apart-turned}
use Rattle.green.specs.Green.{odd_g, full_g}
use Rattle.green.proofs.RowLaws.{length-full, odd-same, full-same, written}
use Rattle.green.proofs.Greens.rows.Goals as goal

pub loop-k-init : goal.loop-k-init
loop-k-init c =
    let s = c.args in
    let g = s.self in
    let w = s.work.now in
    let z : s.from + 0 ≡ s.from = omega arith in
    let o = written w c.odd_at.new.work g.d g.l g.c s.from g.at c.odd_at.ensures (omega (arith, c.requires.2)) in record {
      a_in = (omega arith, omega arith);
      b_in = (omega arith, omega arith);
      apart = inl (omega arith);
      below = o.2;
      here = (λ _. rw z o.0);
      made = over-start (2 * g.c) (λ (j : ℕ). full_g w g.d g.l g.c g.r (s.from + j)) (λ j. length-full w g.d g.l g.c g.r (s.from + j)) s.green.now;
    }

pub step-requires-clause-here : goal.step-requires-clause-here
step-requires-clause-here c =
    let s = c.args in
    let g = s.self in
    let p = c.requires in
    let i = c.loop-k.invariant in
    let y : s.from + c.loop-k.k < g.r = omega (arith, c.loop-k-test.true, p.1) in
    i.here y ∙ sym (odd-same c.loop-k.work s.work.now g.d g.l g.c g.r g.at i.below g.within.details g.within.averages (s.from + c.loop-k.k) y)

pub loop-k-preserved : goal.loop-k-preserved
loop-k-preserved c =
    let s = c.args in
    let g = s.self in
    let p = c.requires in
    let i = c.loop-k.invariant in
    let w = s.work.now in
    let k = c.loop-k.k in
    let y : s.from + k < g.r = omega (arith, c.loop-k-test.true, p.1) in
    let z = c.step.ensures in
    let n : s.from + k + 1 ≡ s.from + (k + 1) = omega arith in
    let e = full-same c.loop-k.work w g.d g.l g.c g.r g.at i.below g.within.details g.within.averages (s.from + k) y in
    let odd = odd-same c.loop-k.work w g.d g.l g.c g.r g.at i.below g.within.details g.within.averages (s.from + k + 1) in rw (c.swap.ensures.x_after, c.swap.ensures.y_after) record {
      a_in = i.b_in;
      b_in = i.a_in;
      apart = apart-turned _ _ _ _ i.apart;
      below = (λ a j b. z.2 a j b ∙ i.below a j b);
      here = (λ q. let v : s.from + k + 1 < g.r = omega (arith, q) in
          z.1 v ∙ odd v ∙ ap (odd_g w g.d g.l g.c) n);
      made = z.0 ∙ over-step (2 * g.c) (λ (j : ℕ). full_g w g.d g.l g.c g.r (s.from + j)) (λ j. length-full w g.d g.l g.c g.r (s.from + j)) s.green.now c.loop-k.green _ k i.made e;
    }
