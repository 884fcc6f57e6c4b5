-- `green::Greens::odd_at` meets its contract. Assumes nothing.
use Rattle.std.proofs.Common.{◌≡◌, ◌+◌, ◌-◌, sym, arith}
use Rattle.lists.proofs.Tab.{part-back, length_part, length-tab}
use Rattle.passes.specs.Level.{band_at, band_row}
use Rattle.green.specs.Green.{odd_row, odd_g}
use Rattle.lifting.proofs.LiftLaws.{part_before}
use Rattle.green.proofs.Greens.odd_at.Goals as goal

pub returns : goal.returns
unfolding odd_g
returns c =
    let s = c.args in
    let g = s.self in
    let n = g.c in
    let w = s.work.now in
    let a = band_at g.l n s.y in
    let p = band_at g.d n (s.y - 1) in
    let q = band_at g.d n s.y in
    let r = c.requires in
    let ra = g.within.averages s.y r.0 in
    let rp = g.within.details (s.y - 1) (omega arith) in
    let rq = g.within.details s.y r.0 in
    let na : a + n - a ≡ n = omega arith in
    let np : p + n - p ≡ n = omega arith in
    let nq : q + n - q ≡ n = omega arith in
    let long = length_part w a n (omega arith) in
    let b = c.split_at_mut-before.ensures in
    let e =
    rw (b.front, c.row-a.ensures, c.row-p.ensures, c.row-q.ensures, c.saturating_sub.ensures, na, np, nq, part_before w s.to a n (omega arith) (omega arith), part_before w s.to p n (omega arith) (omega arith), part_before w s.to q n (omega arith) (omega arith), long) at
    c.odd_row.ensures in
    rw (b.front, b.back)
    (part-back w _ (odd_row n (band_row w n g.l s.y) (band_row w n g.d (s.y - 1)) (band_row w n g.d s.y)) s.to n e (sym (length-tab n _)))
