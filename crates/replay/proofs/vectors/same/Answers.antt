-- `vectors::same` meets its contract. Assumes nothing.
use Rattle.std.proofs.Common.{◌≡◌, rules, pos, length, get_or, refl, arith}
use Rattle.std.proofs.lemmas.Iterator.{cases_from_all, YieldsList-from_range}
use borrow.Author.Tests.{tests}
use mathlib.Core.Logic.{◌≢◌}
use Rattle.replay.specs.Numbers.{word_at}
use Rattle.replay.proofs.Told.{told_places}
use Rattle.replay.proofs.vectors.same.Goals as goal

pub returns : goal.returns
returns c =
    let l = c.args.numbers.now in
    let w = word_at c.args.b.now in
    told_places l w c.all.result
    (cases_from_all _ _ _ (λ i. get_or l i (pos 0) ≡ w i) (λ i. get_or l i (pos 0) ≢ w i) c.all.ensures.ran (YieldsList-from_range 0 (length l) (length l) refl (omega arith)) (λ x q k. search (rules, tests)) (λ x q k. search (rules, tests)))
