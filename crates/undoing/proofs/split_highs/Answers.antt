-- `undoing::split_highs` meets its contract. Assumes nothing.
use Rattle.std.proofs.Common.{◌≡◌, ◌+◌, ◌-◌, ◌*◌, arith, ap, ◌∙◌, ℕ}
use Rattle.lists.specs.Lists.{part, put_at, tab}
use Rattle.lists.proofs.Put.{put-start}
use Rattle.format.specs.Lifting.{low_leads, highs_of}
use Rattle.lifting.specs.Lift.{at}
use Rattle.undoing.proofs.UndoLaws.{put-none, high-step}
use Rattle.undoing.proofs.split_highs.Goals as goal

pub loop-x-init : goal.loop-x-init
loop-x-init c = put-start c.args.work.now c.args.to _

pub loop-x-preserved : goal.loop-x-preserved
loop-x-preserved c =
    let s = c.args in
    let x = c.loop-x.x in
    c.split_high.ensures
    ∙ high-step s.work.now c.loop-x.work s.from s.to s.c x c.requires.1 c.requires.2 (omega arith) c.loop-x.invariant (x + 1) (omega arith)

pub returns-after-loop-x : goal.returns-after-loop-x
returns-after-loop-x c =
    let s = c.args in
    let x = s.c - 1 in
    let last : c.loop-x.x ≡ x = omega arith in
    let all : x + 1 ≡ s.c = omega arith in
    c.split_high-then-c-gt0.ensures
    ∙ high-step s.work.now c.loop-x.work s.from s.to s.c x c.requires.1 c.requires.2 (omega arith) (rw last at c.loop-x.invariant) x (omega arith)
    ∙ ap (λ (k : ℕ). put_at s.work.now s.to (tab k (highs_of low_leads s.c (at (part s.work.now s.from (2 * s.c)))))) all

pub returns-else-c-gt0 : goal.returns-else-c-gt0
returns-else-c-gt0 c = put-none c.args.work.now c.args.to c.args.c _ (omega arith)
