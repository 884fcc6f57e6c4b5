-- `listing::put_tile` meets its contract: field by field. Assumes nothing.
use Rattle.std.proofs.Common.{arith}
use Rattle.listing.proofs.Pieces.{appends-both}
use Rattle.listing.proofs.put_tile.Goals as goal

pub returns-clause-value : goal.returns-clause-value
returns-clause-value c =
    appends-both _ _ _ _ _ (omega arith) c.put_field.ensures.value
    (appends-both _ _ _ _ _ (omega arith) c.put_field-2.ensures.value
    (appends-both _ _ _ _ _ (omega arith) c.put_field-3.ensures.value
    (appends-both _ _ _ _ _ (omega arith) c.put_field-4.ensures.value
    (appends-both _ _ _ _ _ (omega arith) c.put_field-5.ensures.value c.put_field-6.ensures.value))))
