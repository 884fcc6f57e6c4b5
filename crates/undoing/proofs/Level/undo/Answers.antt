-- `undoing::Level::undo` meets its contract. Assumes nothing.
use Rattle.std.proofs.Common.{◌≡◌, ◌-◌, length, rules, refl, arith, ◌∙◌}
use Rattle.undoing.specs.Down.{lead_of, highs_done, Ready}
use Rattle.undoing.proofs.DownLaws.{done-most}
use Rattle.undoing.proofs.StageLaws.{staged-as, staged-last-low}
use Rattle.undoing.proofs.LevelLaws.{level-ready, level-undone}
use Rattle.undoing.proofs.Level.undo.Goals as goal

pub split_pair-requires : goal.split_pair-requires
split_pair-requires c = (rw c.loop-y.auto.work (level-ready c.args.self c.requires.within c.requires.shape), search rules)

pub next_high-requires : goal.next_high-requires
next_high-requires c =
    (rw (c.split_pair.auto.work ∙ c.loop-y.auto.work) (level-ready c.args.self c.requires.within c.requires.shape), search rules)

pub next_low-requires : goal.next_low-requires
next_low-requires c =
    (rw (c.next_high.auto.work ∙ c.split_pair.auto.work ∙ c.loop-y.auto.work) (level-ready c.args.self c.requires.within c.requires.shape), search rules)

pub loop-y-preserved : goal.loop-y-preserved
loop-y-preserved c =
    let g = c.args.self in
    let l = c.args.work.now in
    let y = c.loop-y.y in
    let d = lead_of g.leads in
    let r : Ready g (length l) = level-ready g c.requires.within c.requires.shape in
    let pair = c.split_pair.ensures l (highs_done d y) (y - 1) (done-most d y) (omega arith) r c.loop-y.invariant in
    staged-as g l r (omega arith) refl (omega arith) (c.next_low.ensures l r (c.next_high.ensures l r pair))

pub undo_low-requires : goal.undo_low-requires
undo_low-requires c =
    let r : Ready c.args.self (length c.args.work.now) = level-ready c.args.self c.requires.within c.requires.shape in
    (rw (c.last_high.auto.work ∙ c.loop-y.auto.work) r.placed, omega (arith, r.placed.some))

pub returns : goal.returns
returns c =
    let g = c.args.self in
    let l = c.args.work.now in
    let r : Ready g (length l) = level-ready g c.requires.within c.requires.shape in
    let all : c.loop-y.y ≡ g.h = omega arith in
    level-undone g l _ r (staged-last-low g l r _ _ (c.last_high.ensures l r (rw all at c.loop-y.invariant)) c.undo_low.ensures)
