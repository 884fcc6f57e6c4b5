-- `recovery::index_back` meets its contract. Assumes nothing.
use Rattle.std.proofs.Common.{subst, ℕ, false}
use Rattle.refusals.specs.Number.{code_of}
use Rattle.refusals.proofs.Laws.{code_of-and-4}
use Rattle.format.specs.Sizes.{l1, l2, l3}
use Rattle.recovery.specs.Recovered.{ll_step, LevelBack}
use Rattle.recovery.proofs.IndexLaws.{index_back}
use Rattle.recovery.proofs.index_back.Goals as goal

pub returns : goal.returns
returns c =
    let a = c.args in
    let k = c.requires.0 in
    let second = subst (λ (n : ℕ). LevelBack a.b.z a.b.at l2 false n (ll_step a.b.z l3) c.level_back-ll_3.new.work c.level_back-ll_2.new.work (code_of c.level_back-ll_2.result.1)) c.level_back-ll_3.ensures.0 c.level_back-ll_2.ensures.1 in
    let first = subst (λ (n : ℕ). LevelBack a.b.z a.b.at l1 false n (ll_step a.b.z l2) c.level_back-ll_2.new.work c.level_back-ll_1.new.work (code_of c.level_back-ll_1.result.1)) c.level_back-ll_2.ensures.0 c.level_back-ll_1.ensures.1 in
    index_back a.b.z a.b.at a.odd a.from k.fits.0.whole k.all k.fits.0.tall k.front _ _ _ _ _ _ _ _ _
    c.level_back-ll_3.ensures.1 second first c.steps_back-steps.ensures _
    (code_of-and-4 _ _ _ _ _ c.and.ensures c.and-2.ensures _ _ c.and-3.ensures)
