-- `returning::steps_back` meets its contract: y rows of steps are laid, and checked. Assumes nothing.
use Rattle.std.proofs.Common.{◌≡◌, ◌∙◌, refl, sym, ap, ℕ, ◌+◌, ◌*◌, List, ℤ, length}
use Rattle.lists.specs.Lists.{part}
use Rattle.lists.proofs.Tab.{length-tab, length_part}
use Rattle.lists.proofs.Laid.{laid-start}
use Rattle.refusals.specs.Number.{code_of}
use Rattle.refusals.proofs.Laws.{code_of-and}
use Rattle.format.proofs.TurnLaws.{each_none}
use Rattle.returning.specs.Return.{steps_of, steps_refusal}
use Rattle.returning.proofs.FaultLaws.{each_next}
use Rattle.returning.proofs.MoveLaws.{row-there, row-went}
use Rattle.returning.proofs.steps_back.Goals as goal

pub loop-y-init : goal.loop-y-init
loop-y-init c =
    let s = c.args in
    let l = s.work.now in (
      sym (each_none (λ y. steps_refusal s.r.c (part l (s.r.from + y * s.r.t) s.r.c))),
      laid-start (λ (y : ℕ). s.to + y * s.r.c) (λ (y : ℕ). steps_of s.r.c (part l (s.r.from + y * s.r.t) s.r.c)) l,
    )

pub loop-y-preserved : goal.loop-y-preserved
loop-y-preserved c =
    let s = c.args in
    let l = s.work.now in
    let y = c.loop-y.y in
    let p : ℕ → ℕ = λ y. s.to + y * s.r.c in
    let g : ℕ → List ℤ → List ℤ = λ y r. steps_of s.r.c r in
    let n : (k : ℕ) (r : List ℤ) → length (g k r) ≡ s.r.c = λ k r. length-tab s.r.c _ in
    let e = c.loop-y.invariant.1 in
    let b = c.loop-y-test.true in
    let there = row-there p g l s.r.c s.r.from s.r.t s.r.count n c.requires _ _ y _ e b refl c.copy.ensures in
    let long = ap length there ∙ length_part l (s.r.from + y * s.r.t) s.r.c (c.requires.stands y b) in
    let row = c.undo_sums-row.ensures.0 ∙ (λ i. steps_of (long i) (there i)) in
    let refused = c.undo_sums-row.ensures.1 ∙ (λ i. steps_refusal (long i) (there i)) in (
      ap code_of c.and-checked.ensures ∙ code_of-and c.loop-y.checked c.undo_sums-row.result ∙ each_next (λ y. steps_refusal s.r.c (part l (s.r.from + y * s.r.t) s.r.c)) y _ _ c.loop-y.invariant.0 refused,
      row-went p g l s.r.c s.r.from s.r.t s.r.count n c.requires _ _ y _ e b refl c.copy.ensures _ row,
    )
