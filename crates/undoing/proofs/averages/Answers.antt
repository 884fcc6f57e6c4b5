-- `undoing::averages` meets its contract. Assumes nothing.
use Rattle.std.proofs.Common.{◌≡◌, List, ℕ, ℤ, ◌+◌, ◌-◌, ◌*◌, ◌<◌, rules, refl, arith, ap, ◌∙◌}
use Rattle.lists.specs.Lists.{part, laid}
use Rattle.lists.proofs.Tab.{length-tab}
use Rattle.lists.proofs.Laid.{laid-start, laid-step, laid_out, laid_same}
use Rattle.undoing.specs.Undo.{averages_row}
use Rattle.undoing.proofs.RowLaws.{dense-in, dense-apart}
use Rattle.undoing.proofs.GreenLaws.{averages-are}
use Rattle.undoing.proofs.averages.Invariants.{averages_of}
use Rattle.undoing.proofs.averages.Goals as goal

pub loop-y-init : goal.loop-y-init
loop-y-init c = let s = c.args in laid-start (λ y. s.to + y * s.c) _ s.work.now

pub averages_row-requires-clause-apart : goal.averages_row-requires-clause-apart
averages_row-requires-clause-apart c =
    let s = c.args in
    let y = c.loop-y.y in
    let b : y < s.count = search rules in
    let apart = dense-apart s.from s.to s.c s.count c.requires.3 in
    (rw c.saturating_sub.ensures (apart (y - 1) y (omega arith) b), apart y y b b)

pub loop-y-preserved : goal.loop-y-preserved
loop-y-preserved c =
    let s = c.args in
    let l = s.work.now in
    let n = s.c in
    let m = c.loop-y.work in
    let y = c.loop-y.y in
    let i = c.loop-y.invariant in
    let b : y < s.count = search rules in
    let f = averages_of l s.plane.now s.from n in
    let apart = dense-apart s.from s.to n s.count c.requires.3 in
    let same : (r : ℕ) → r < s.count → part m (s.from + r * n) n ≡ part l (s.from + r * n) n =
    λ r z. ap (λ (k : List ℤ). part k (s.from + r * n) n) i
    ∙ laid_out (λ y. s.to + y * n) f l n s.count (λ j. length-tab n _) (dense-in s.to n s.count _ c.requires.2) (s.from + r * n) n y (omega arith)
    (λ j x. apart r j z (omega (arith, x, b))) in
    let before = ap (λ (k : ℕ). part m (s.from + k * n) n) c.saturating_sub.ensures ∙ same (y - 1) (omega arith) in
    let row = y * (2 * n) in
    let w : row + 2 * n - row ≡ 2 * n = omega arith in
    rw w at c.averages_row.ensures
    ∙ laid-step (λ y. s.to + y * n) f l m _ y _ i refl (λ j. averages_row n (part s.plane.now row (2 * n)) (before j) (same y b j))

pub returns : goal.returns
returns c stand =
    let s = c.args in
    let l = s.work.now in
    let n = s.c in
    let e : c.loop-y.y ≡ s.count = omega arith in
    c.loop-y.invariant
    ∙ ap (laid (λ y. s.to + y * n) (averages_of l s.plane.now s.from n) l) e
    ∙ laid_same (λ y. s.to + y * n) (λ y. s.to + y * n) _ _ l s.count (λ j b. refl)
    (λ j b. averages-are s.count n s.plane.now j _ _ (stand (j - 1) (omega (arith, b))) (stand j b))
