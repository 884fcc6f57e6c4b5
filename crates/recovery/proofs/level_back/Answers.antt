-- `recovery::level_back` meets its contract. Assumes nothing.
use Rattle.std.proofs.Common.{◌∙◌, sym, subst, ℕ}
use Rattle.format.specs.Lifting.{Lead}
use Rattle.levels.specs.Bands.{level_of}
use Rattle.returning.specs.Return.{Held, Beside}
use Rattle.recovery.specs.Recovered.{Ready, LevelReady, step_in, to_in, undoing_of}
use Rattle.recovery.proofs.LevelLaws.{clean, level-back}
use Rattle.recovery.proofs.Rooms.{level-lead, held, packet-front, shaped, shape-of, span-of, start-of, rows-of, order-of, low-of, step-of}
use Rattle.recovery.proofs.level_back.Goals.{After-undo-rows}
use Rattle.recovery.proofs.level_back.Goals as goal

pub undo-rows-requires : goal.undo-rows-requires
undo-rows-requires c =
    let a = c.args in
    let l = level_of a.s in
    let k = c.requires.0 in
    rw c.of_level-g.ensures (record {
      within = rows-of a.b.z a.b.at _ k l a.from c.requires.1;
      shape = shape-of a.b.z a.b.at _ k l;
      order = order-of a.b.z a.b.at _ k l a.from c.requires.1;
    })

-- the level is undone, in document 01's words
made : (c : After-undo-rows) → let a = c.args in let l = level_of a.s in
    LevelReady a.b.z a.b.at l a.from (step_in a.b.z l) (to_in a.b.z l a.from) (step_in a.b.z l) a.work.now c.undo-rows.new.work c.undo-rows.result
made c =
    let a = c.args in
    let l = level_of a.s in
    let g = undoing_of a.b.z a.b.at l a.from in
    let r = rw c.of_level-g.ensures at c.undo-rows.ensures in
    subst (λ (d : Lead). Ready d g.h g.m g.c a.from g.t g.to g.t g.a g.b a.work.now c.undo-rows.new.work c.undo-rows.result) (level-lead a.b.z.guarded l) r

pub bands_back-checked-requires : goal.bands_back-checked-requires
bands_back-checked-requires c =
    let a = c.args in
    let l = level_of a.s in
    let k = c.requires.0 in
    let w = c.requires.1 in
    let r = made (goal.at.bands_back-checked-requires c).After-undo-rows in
    subst (λ (n : ℕ). Held a.b.z a.b.at n × Beside a.b.z a.b.at l c.undo-rows.result n) (sym r.long) (
      held a.b.z a.b.at _ k,
      clean a.b.z a.b.at l a.odd a.from (step_in a.b.z l) (to_in a.b.z l a.from) (step_in a.b.z l) _ _ a.work.now _ 0 (shaped a.b.z a.b.at _ k l) (packet-front a.b.z a.b.at _ k l)
          (start-of a.b.z a.b.at _ k l a.from w) (span-of a.b.z a.b.at _ k l a.from w) r _ k.room,
    )

pub returns : goal.returns
returns c =
    let a = c.args in
    let l = level_of a.s in
    let k = c.requires.0 in
    let w = c.requires.1 in
    let r = made (goal.at.returns c).After-undo-rows in
    let low = r.lows ∙ low-of a.b.z a.b.at _ k l a.from w in (
      low,
      level-back a.b.z a.b.at l a.odd a.from (step_in a.b.z l) (to_in a.b.z l a.from) (step_in a.b.z l) _ _ _ _ _ (shaped a.b.z a.b.at _ k l) (packet-front a.b.z a.b.at _ k l)
          (start-of a.b.z a.b.at _ k l a.from w) (span-of a.b.z a.b.at _ k l a.from w) r c.bands_back-checked.ensures low (r.stride ∙ step-of a.b.z a.b.at _ k l),
    )
