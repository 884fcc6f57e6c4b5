-- `recovery::Undoing::undo` meets its contract. Assumes nothing.
use Rattle.std.proofs.Common.{arith, refl, ◌≡◌, ◌-◌}
use borrow.Rule.Slice.PartMut.{put_mid}
use Rattle.lists.specs.Lists.{put_at}
use Rattle.format.specs.Coefficients.{zeros}
use Rattle.undoing.specs.Down.{lead_of}
use Rattle.recovery.proofs.LevelLaws.{put-zeros, ready}
use Rattle.recovery.proofs.Undoing.undo.Goals.{After-fill, then-self, else-self}
use Rattle.recovery.proofs.Undoing.undo.Goals as goal

-- the numbers from a to b are cleared
cleared : (c : After-fill) → let s = c.args.self in put_mid s.a (s.b - s.a) c.undo.new.work c.fill.new.self ≡ put_at c.undo.new.work s.a (zeros (s.b - s.a))
cleared c =
    let s = c.args.self in
    put-zeros c.undo.new.work c.fill.new.self s.a (s.b - s.a) (omega (arith, c.undo.ensures.long, c.requires.order)) (c.fill.ensures.after (λ y e. e))

pub returns : goal.returns
returns c =
    let s = c.args.self in
    let k = c.requires.order in
    let z = cleared (goal.at.returns c).After-fill in
    elim c.if-self.branch [
      | then-self w ↦
          rw w.low-is
          (ready (lead_of s.leads) s.h s.m s.c c.args.from s.t s.to s.t s.a s.b c.args.work.now c.undo.new.work _ _ c.undo.ensures z
          k.0 k.1 k.2 (rw w.if-self.true (omega arith)) (rw w.if-self.true (omega arith)) refl)
      | else-self w ↦
          rw w.low-is
          (ready (lead_of s.leads) s.h s.m s.c c.args.from s.t s.to s.t s.a s.b c.args.work.now c.undo.new.work _ _ c.undo.ensures z
          k.0 k.1 k.2 (rw w.if-self.false (omega arith)) (rw w.if-self.false (omega arith)) refl)
    ]
