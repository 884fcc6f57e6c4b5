-- `undoing::split_lows` meets its contract. Assumes nothing.
use Rattle.std.proofs.Common.{◌-◌, refl, arith, ◌∙◌}
use Rattle.lists.proofs.Put.{put-start}
use Rattle.undoing.proofs.UndoLaws.{put-none, low-step}
use Rattle.undoing.proofs.split_lows.Goals as goal

pub loop-x-init : goal.loop-x-init
loop-x-init c =
    let s = c.args in
    let l = s.work.now in
    let p = c.requires in
    c.split_low.ensures ∙ low-step l s.from s.high s.c l s.to 0 p.in_bounds.2 p.apart.0 p.apart.1 (omega arith) (put-start l s.to _) 0 refl

pub loop-x-preserved : goal.loop-x-preserved
loop-x-preserved c =
    let s = c.args in
    let p = c.requires in
    let x = c.loop-x.x in
    c.split_low-in-loop-x.ensures
    ∙ low-step s.work.now s.from s.high s.c c.loop-x.work s.to x p.in_bounds.2 p.apart.0 p.apart.1 (omega arith) c.loop-x.invariant (x - 1) refl

pub returns-else-c-gt0 : goal.returns-else-c-gt0
returns-else-c-gt0 c = put-none c.args.work.now c.args.to c.args.c _ (omega arith)
