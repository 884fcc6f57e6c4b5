-- `green::odd_row` meets its contract: the first x places hold the formula. Assumes nothing.
use Rattle.std.proofs.Common.{◌≡◌, ◌+◌, ◌-◌, length, w32, arith, to_z, of_z}
use Rattle.std.proofs.lemmas.Grind.{common_steps}
use Rattle.std.proofs.lemmas.Int.{to_z-of_z}
use Rattle.lists.proofs.Tab.{fill_start, fill_step, fill_done}
use Rattle.green.specs.Green.{odd_at, right}
use Rattle.green.proofs.odd_row.Goals as goal

pub loop-x-init : goal.loop-x-init
loop-x-init c = fill_start _ _

pub loop-x-preserved : goal.loop-x-preserved
loop-x-preserved c =
    let s = c.args in
    let n = length s.l.now in
    let x = c.loop-x.x in
    let e : right n x ≡ x + 1 = omega arith in
    let v : to_z w32 (of_z w32 c.odd_one.result) ≡ odd_at n s.l.now s.p.now s.q.now x = rw e (grind (arith, common_steps, to_z-of_z)) in
    fill_step s.dst.now c.loop-x.dst x (odd_at n s.l.now s.p.now s.q.now) _ c.loop-x.invariant (omega arith) v

pub returns : goal.returns
returns c =
    let s = c.args in
    let n = length s.l.now in
    let x = n - 1 in
    let e : right n x ≡ x = omega arith in
    let all : c.loop-x.x ≡ x = omega arith in
    let f = odd_at n s.l.now s.p.now s.q.now in
    let v : to_z w32 (of_z w32 c.odd_one-2.result) ≡ f x = rw e (grind (arith, common_steps, to_z-of_z)) in
    fill_done _ _ (x + 1) n f (fill_step s.dst.now c.loop-x.dst x f _ (rw all at c.loop-x.invariant) (omega arith) v) (omega arith) (omega arith)
