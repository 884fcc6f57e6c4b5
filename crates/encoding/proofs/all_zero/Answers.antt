-- `all_zero` meets its contract. Assumes nothing.
use Rattle.std.proofs.Common.{◌≡◌, pos, rules, tests}
use Rattle.std.proofs.lemmas.Iterator.{cases_from_all, YieldsList-from_slice}
use Rattle.encoding.proofs.Records.{zero_in}
use Rattle.encoding.proofs.all_zero.Goals as goal

pub returns : goal.returns
returns c =
    let xs = c.args.l.now in
    zero_in _ xs (cases_from_all _ _ _ (λ z. z ≡ pos 0) (λ z. z ≡ pos 0 → ⊥) c.all.ensures.ran (YieldsList-from_slice xs cc) (λ x q k. search (rules, tests)) (λ x q k. search (rules, tests)))
