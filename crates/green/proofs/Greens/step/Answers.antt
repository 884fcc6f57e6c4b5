-- `green::Greens::step` meets its contract. Assumes nothing.
use Rattle.std.proofs.Common.{◌≡◌, refl, ap, ◌∙◌, ◌+◌, ◌-◌, min, arith}
use Rattle.lists.specs.Lists.{put_at, SameBelow}
use Rattle.green.proofs.RowLaws.{full_is, written}
use Rattle.green.proofs.Greens.step.Goals as goal

pub returns-then-y-self : goal.returns-then-y-self
returns-then-y-self c =
    let s = c.args in
    let g = s.self in
    let p = c.requires.in_bounds in
    let w = s.work.now in
    let n = g.c in
    let k : s.y + 1 ≡ min (s.y + 1) (g.r - 1) = omega (arith, c.if-y-self.true) in
    let o = c.odd_at in
    let z = written w o.new.work g.d g.l n (s.y + 1) s.b o.ensures p.4 in
    let same : SameBelow g.at o.new.work w = (λ a i b. z.2 a i (omega (arith, b, p.2))) in
    let row = full_is w g.d g.l n g.r s.y (s.y + 1) k (z.1 s.a n p.5 ∙ c.requires.here) z.0 (same _ n (g.within.details s.y p.0).0) in
    (c.full_at.ensures ∙ ap (put_at s.green.now s.o) row, (λ _. z.0), same)

pub returns-else-y-self : goal.returns-else-y-self
returns-else-y-self c =
    let s = c.args in
    let g = s.self in
    let p = c.requires in
    let t = c.if-y-self.false in
    let k : s.y ≡ min (s.y + 1) (g.r - 1) = omega (arith, t, p.in_bounds.0) in
    let row = full_is s.work.now g.d g.l g.c g.r s.y s.y k p.here p.here refl in
    (c.full_at-else-y-self.ensures ∙ ap (put_at s.green.now s.o) row, (λ q. absurd (omega (arith, q, t))), (λ a i b. refl))
