-- Laws of text that is appended piece by piece, of decimal digits and of lines in order. Assumes nothing.
use Rattle.std.proofs.Common.{◌≡◌, ℕ, zero, suc, ◌+◌, ◌^◌, ◌≤◌, ◌<◌, List, [], ◌∷◌, ◌++◌, map, length, get_or, Result, Ok, Err, rules, refl, sym, ap, ◌∙◌, arith, append-nil, length-append, take-append-drop}
use Rattle.std.proofs.lemmas.List.{length-map}
use Rattle.std.specs.Fmt as std
use Rattle.std.proofs.lemmas.Fmt.{decimal_from_appends, length-decimal-le}
use Rattle.lists.specs.Lists.{put_at, rows}
use Rattle.lists.proofs.Put.{put-put}
use Rattle.lists.proofs.Rows.{rows_same}
use Rattle.format.specs.Strip.{Tile}
use Rattle.strip.specs.declared.TileStream.{TileStream}
use Rattle.strip.specs.Answers.{zero_stream, stream_of, stream_fields, fields_at, located_of}
use Rattle.listing.specs.declared.Text.{Text}
use Rattle.listing.specs.Text.{Appends}
use Rattle.listing.specs.Listing.{digits, decimal, ended, line, line_at, tiles_word, listing}

-- nothing is appended
pub appends-none : (t : Text) → Appends t t []
appends-none t = record { same = refl; on = omega arith; long = refl; slice = sym (take-append-drop t.len t.out.now) }

-- a second piece behind the first is one longer piece
pub appends-both : (t r s : Text) (x y : List ℕ) → t.len + length x ≤ length t.out.now → Appends t r x → Appends r s y → Appends t s (x ++ y)
appends-both t r s x y h p q = record {
  same = q.same ∙ p.same;
  on = omega (arith, p.on, q.on, length-append x y);
  long = q.long ∙ p.long;
  slice = q.slice ∙ ap (λ a. put_at r.out.now a y) p.on ∙ ap (λ l. put_at l (t.len + length x) y) p.slice ∙ put-put t.out.now x y t.len h;
}

-- the library's decimal digits
pub decimal_is : (n : ℕ) → n < 2 ^ 64 → std.decimal n ≡ decimal n
unfolding decimal digits
decimal_is n h = sym (decimal_from_appends digits (search rules) 20 n h (length-decimal-le 20 n (omega arith) (omega arith) h))

module _ (g : ℕ → List ℕ) where
  pub no_rows : rows 0 g ≡ []
  unfolding rows
  no_rows = refl

  pub next_row : (i : ℕ) → rows (i + 1) g ≡ rows i g ++ g i
  unfolding rows
  next_row i = let next : i + 1 ≡ suc i = omega arith in rw next refl

fields_same : (ts : List Tile) (k : ℕ) → k < length ts → stream_fields (get_or (map stream_of ts) k zero_stream) ≡ fields_at ts k
unfolding fields_at
fields_same [] k h = absurd (omega arith)
fields_same (t ∷ ts) zero h = refl
fields_same (t ∷ ts) (suc k) h = fields_same ts k (omega arith)

-- the text by the answer for the tiles
abbrev pub text_of : {E : Type 0} → Result (List TileStream) E → List ℕ
text_of (Ok tiles) = tiles_word ++ (ended (length tiles) 10 ++ rows (length tiles) (line_at tiles))
text_of (Err r) = tiles_word ++ ended 0 10

pub listing_is : (ts : List Tile) → listing ts ≡ text_of (located_of ts)
unfolding listing
listing_is [] = rw (no_rows, append-nil) refl
listing_is (t ∷ ts) =
    let us = t ∷ ts in
    rw (length-map, rows_same (length us) (line_at (map stream_of us)) (λ k. line (fields_at us k)) (λ k h. ap line (fields_same us k h))) refl
