-- `vectors::all` meets its contract. Assumes nothing.
use Rattle.std.proofs.Common.{◌≡◌, rules}
use Rattle.std.proofs.lemmas.Iterator.{cases_from_all, YieldsList-from_slice}
use borrow.Author.Tests.{tests}
use mathlib.Core.Logic.{◌≢◌}
use Rattle.replay.proofs.Told.{told_each}
use Rattle.replay.proofs.vectors.all.Goals as goal

pub returns : goal.returns
returns c =
    let l = c.args.numbers.now in
    told_each l c.args.v c.all.result
    (cases_from_all _ _ _ (λ x. x ≡ c.args.v) (λ x. x ≢ c.args.v) c.all.ensures.ran (YieldsList-from_slice l cc) (λ x q k. search (rules, tests)) (λ x q k. search (rules, tests)))
