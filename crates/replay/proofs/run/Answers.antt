-- `replay::run` meets its contract: every case is counted once. Assumes nothing.
use Rattle.std.proofs.Common.{◌≡◌, ℕ, ◌+◌, ◌<◌, List, length, get_or, arith, refl, ◌∙◌, ap}
use lib.ListN.{set, length-set}
use Rattle.replay.specs.declared.Count.{Count}
use Rattle.replay.specs.Tally.{total, counts_of}
use Rattle.replay.proofs.Tallied.{none, count_most, total_next}
use Rattle.replay.proofs.run.Goals.{then-right, else-right}
use Rattle.replay.proofs.run.Goals as goal

pub loop-init : goal.loop-init
unfolding total
loop-init g c = (refl, omega (arith, c.default-tally.ensures))

pub overflow_add-count : goal.overflow_add-count
overflow_add-count g c = omega (arith, count_most none c.loop.tally c.place.result (omega (arith, c.loop.invariant, c.place.ensures)), c.loop.invariant)

pub overflow_add-count-else-right : goal.overflow_add-count-else-right
overflow_add-count-else-right g c = omega (arith, count_most none c.loop.tally c.place.result (omega (arith, c.loop.invariant, c.place.ensures)), c.loop.invariant)

-- a count that is one more than it was
counted : (l m : List Count) (k n : ℕ) (c : Count) → (length l ≡ 8) × (total (counts_of l) ≡ n) → k < 8 → m ≡ set l k c
    → c.right + c.wrong ≡ (get_or l k none).right + (get_or l k none).wrong + 1 → (length m ≡ 8) × (total (counts_of m) ≡ n + 1)
counted l m k n c (long, all) low is e = rw is (length-set l k c ∙ long, total_next none l k c (omega arith) e ∙ ap (λ t. t + 1) all)

pub loop-preserved : goal.loop-preserved
loop-preserved g c =
    let l = c.loop.tally in
    let k = c.place.result in
    let here : Count = get_or l k none in
    elim c.if-right.branch [
      | then-right w ↦ counted l c.if-right.tally k c.loop.counter (record { right = here.right + 1; wrong = here.wrong }) c.loop.invariant c.place.ensures w.tally-is (omega arith)
      | else-right w ↦ counted l c.if-right.tally k c.loop.counter (record { right = here.right; wrong = here.wrong + 1 }) c.loop.invariant c.place.ensures w.tally-is (omega arith)
    ]
