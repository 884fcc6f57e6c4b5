-- `undoing::averages_row` meets its contract. Assumes nothing.
use Rattle.std.proofs.Common.{◌≡◌, ◌+◌, ◌-◌, arith, ap, ◌∙◌, ℕ}
use Rattle.lists.specs.Lists.{put_at, tab}
use Rattle.lists.proofs.Put.{put-start}
use Rattle.undoing.proofs.UndoLaws.{put-none, average_of, average-step}
use Rattle.undoing.proofs.averages_row.Goals as goal

pub loop-x-init : goal.loop-x-init
loop-x-init c = put-start c.args.work.now c.args.to _

pub loop-x-preserved : goal.loop-x-preserved
loop-x-preserved c =
    let s = c.args in
    let p = c.requires in
    let x = c.loop-x.x in
    c.average_at.ensures
    ∙ average-step s.work.now s.row.now s.prev s.cur s.c c.loop-x.work s.to x p.in_bounds.1 p.apart.0 p.apart.1 (omega arith) c.loop-x.invariant (x + 1) (omega arith)

pub returns-after-loop-x : goal.returns-after-loop-x
returns-after-loop-x c =
    let s = c.args in
    let p = c.requires in
    let x = s.c - 1 in
    let last : c.loop-x.x ≡ x = omega arith in
    let all : x + 1 ≡ s.c = omega arith in
    c.average_at-then-c-gt0.ensures
    ∙ average-step s.work.now s.row.now s.prev s.cur s.c c.loop-x.work s.to x p.in_bounds.1 p.apart.0 p.apart.1 (omega arith) (rw last at c.loop-x.invariant) x (omega arith)
    ∙ ap (λ (k : ℕ). put_at s.work.now s.to (tab k (average_of s.work.now s.row.now s.prev s.cur s.c))) all

pub returns-else-c-gt0 : goal.returns-else-c-gt0
returns-else-c-gt0 c = put-none c.args.work.now c.args.to c.args.c _ (omega arith)
