-- `undoing::Level::next_high` meets its contract. Assumes nothing.
use Rattle.std.proofs.Common.{Bool, ℕ, ◌+◌, ◌-◌, arith, ap, ◌∙◌}
use Rattle.undoing.specs.Down.{lead_of, highs_done}
use Rattle.undoing.proofs.StageLaws.{staged-next-high}
use Rattle.undoing.proofs.Level.next_high.Goals as goal

pub returns-then-self : goal.returns-then-self
returns-then-self c l ready staged =
    let y = c.args.y in
    let done = λ (n : ℕ). ap (λ (b : Bool). highs_done (lead_of b) n) c.if-self.true in
    staged-next-high c.args.self l ready y y c.args.work.now _ c.requires.1 (done y) (done (y + 1)) staged c.undo_high.ensures

pub returns-then-y-gt0 : goal.returns-then-y-gt0
returns-then-y-gt0 c l ready staged =
    let y = c.args.y in
    let done = λ (n : ℕ). ap (λ (b : Bool). highs_done (lead_of b) n) c.if-self.false in
    staged-next-high c.args.self l ready y (y - 1) c.args.work.now _ c.requires.1 (done y) (done (y + 1) ∙ omega arith) staged c.undo_high-then-y-gt0.ensures
