-- `listing::put_listing` meets its contract: the title, then the lines. Assumes nothing.
use Rattle.std.proofs.Common.{arith, ◌≡◌, ◌∙◌, ◌++◌, ap, subst, sym, length}
use Rattle.lists.specs.Lists.{rows}
use Rattle.format.specs.Strip.{tiles_of}
use Rattle.listing.specs.Listing.{ended, line_at, tiles_word, listing}
use Rattle.listing.specs.Text.{Appends}
use Rattle.listing.proofs.Pieces.{appends-both, text_of, listing_is}
use Rattle.listing.proofs.put_listing.Goals as goal

pub returns-in-Ok-clause-value : goal.returns-in-Ok-clause-value
returns-in-Ok-clause-value c =
    let ts = tiles_of c.args.strip.now c.args.full_w c.args.full_h in
    let l = c.as_slice.result.now in
    let found = ap text_of (sym c.in-Ok.is ∙ c.find_streams-found.ensures) ∙ sym (listing_is ts) in
    let same : tiles_word ++ (ended c.len.result 10 ++ rows (length l) (line_at l)) ≡ listing ts = rw (c.len.ensures.value, c.as_slice.ensures.value) found in
    subst (Appends _ _) same
    (appends-both _ _ _ _ _ (omega arith) c.push.ensures (appends-both _ _ _ _ _ (omega arith) c.put_field.ensures.value c.put_tiles.ensures.value))

pub returns-in-Err-clause-value : goal.returns-in-Err-clause-value
returns-in-Err-clause-value c =
    let same = ap text_of (sym c.in-Err.is ∙ c.find_streams-found.ensures) ∙ sym (listing_is (tiles_of c.args.strip.now c.args.full_w c.args.full_h)) in
    subst (Appends _ _) same (appends-both _ _ _ _ _ (omega arith) c.push.ensures c.put_field-in-Err.ensures.value)
