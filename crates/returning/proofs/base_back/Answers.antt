-- `returning::base_back` meets its contract. Assumes nothing.
use Rattle.std.proofs.Common.{ap, ◌∙◌, ◌≡◌, ℕ, ◌-◌}
use Rattle.format.specs.Table.{start}
use Rattle.returning.proofs.BaseLaws.{base-height, start-is, base_gives}
use Rattle.returning.proofs.base_back.Goals.{After-from-s}
use Rattle.returning.proofs.base_back.Goals as goal

-- group 0's first row that goes in
first : (c : After-from-s) → c.from-s.result ≡ start c.args.b.z.guarded
first c = c.from-s.ensures ∙ start-is c.args.b.z.guarded

pub returns : goal.returns
returns c =
    let s = c.args in
    let b = s.b in
    let z = b.z in
    let e = first (goal.at.returns c).After-from-s in
    base_gives z b.at s.from s.t s.work.now c.requires.0
    _ _ e (ap (λ (k : ℕ). z.n - k) e ∙ base-height z.guarded z.n) _ _ c.steps_back.ensures.0 c.steps_back.ensures.1
