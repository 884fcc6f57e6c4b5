-- `listing::put_field` meets its contract: the digits, then the byte. Assumes nothing.
use Rattle.std.proofs.Common.{arith, ◌≡◌, ◌∙◌, subst}
use Rattle.listing.specs.Listing.{decimal}
use Rattle.listing.specs.Text.{Appends}
use Rattle.listing.proofs.Pieces.{appends-both, decimal_is}
use Rattle.listing.proofs.put_field.Goals as goal

pub returns-clause-value : goal.returns-clause-value
returns-clause-value c =
    let digits : c.as_bytes.result.now ≡ decimal c.args.n = c.as_bytes.ensures.value ∙ c.format.ensures.text ∙ decimal_is c.args.n (omega arith) in
    appends-both _ _ _ _ _ (rw (← digits) (omega arith)) (subst (Appends _ _) digits c.push.ensures) c.push-2.ensures
