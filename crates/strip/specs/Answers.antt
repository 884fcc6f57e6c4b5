-- The answers of the header and of the locator, with document 01's number and values for each case.
use Rattle.std.specs.Prelude.{Option, Some, None, option_map, ok_or, Result, Ok, Err, ◌≡◌, List, [], ◌∷◌, map, Bool, true, false, not, cond, ◌&&◌, ℕ, zero, suc, ◌+◌, ◌-◌, ◌≤◌, leb, eqb, length, get_or, drop}
use Rattle.format.specs.Bits.{little32}
use Rattle.format.specs.Strip as strip
use Rattle.format.specs.Refusals.{on}
use Rattle.format.specs.Strip.{Tile, valid_header, only_if, tile_at, unless0, word, has_table, entry_tiles, table_or}
use Rattle.fields.specs.declared.size.Size.{Size}
use Rattle.refusals.specs.declared.Refusal.{Refusal}
use Rattle.refusals.specs.declared.Refusal.TheVariants.{NoTile, InvalidHeader}
use Rattle.strip.specs.declared.TileStream.{TileStream}

-- ---- the header

-- the number of a header's check: 2, header invalid
abbrev pub header_refusal : List ℕ → ℕ
header_refusal s = on (not (valid_header s)) 2

-- what each answer says of a stream: no refusal, w and H; or refusal 2
abbrev pub HeaderSays : List ℕ → Result Size Refusal → Type 0
HeaderSays s (Ok h) =
    (valid_header s ≡ true) × (128 ≤ length s) × (h.width ≡ strip.width s) × (h.height ≡ strip.coded_height s) × (header_refusal s ≡ 0)
HeaderSays s (Err r) = (valid_header s ≡ false) × (r ≡ InvalidHeader) × (header_refusal s ≡ 2)

-- ---- the tiles

-- the code's record of a tile
abbrev pub stream_of : Tile → TileStream
stream_of t = record { offset = t.offset; length = t.length; x = t.x; y = t.y; width = t.width; height = t.height }

-- the record with every field 0
abbrev pub zero_stream : TileStream
zero_stream = record { offset = 0; length = 0; x = 0; y = 0; width = 0; height = 0 }

-- what a position, an entry, or offset 512 alone gives: a tile with its six fields, or nothing
abbrev pub located_tile_of : Option Tile → Option TileStream
located_tile_of o = option_map stream_of o

-- the stream at a byte: a valid header, and a payload of so many bytes at least lying within the strip
unfoldable pub stream_tile : List ℕ → ℕ → ℕ → Option Tile
stream_tile s at least =
    only_if
    (valid_header (drop at s) && leb least (strip.payload (drop at s)) && leb (strip.payload (drop at s)) (length s - at - 128))
    (tile_at (drop at s) at 0 0)

-- the sides of entry i are w and H, or 0, and the tile lies inside the frame
unfoldable pub placed : List ℕ → ℕ → ℕ → ℕ → ℕ → ℕ → Bool
placed s frame_w frame_h i w H =
    eqb (unless0 (word s i 4) w) w && eqb (unless0 (word s i 5) H) H
    && leb (word s i 2 + w) frame_w && leb (word s i 3 + H) frame_h

-- the records of tiles in their order; none where there are none
abbrev pub listed_of : List Tile → Option (List TileStream)
listed_of [] = None
listed_of (t ∷ ts) = Some (map stream_of (t ∷ ts))

-- the answer for the tiles of a strip: none is refusal 1; else their records in order
abbrev pub located_of : List Tile → Result (List TileStream) Refusal
located_of ts = ok_or (listed_of ts) NoTile

-- the tiles of the table alone; none where an entry fails or there is no table
unfoldable pub table_tiles : List ℕ → ℕ → ℕ → List Tile
table_tiles s frame_w frame_h = table_or (cond (has_table (little32 s 0)) (entry_tiles s frame_w frame_h 0 (little32 s 0)) None) []

-- ---- for C

-- the six fields in order
abbrev pub stream_fields : TileStream → List ℕ
stream_fields t = t.offset ∷ t.length ∷ t.x ∷ t.y ∷ t.width ∷ t.height ∷ []

-- the fields of tile k, from 0; none where there is no such tile
unfoldable pub fields_at : List Tile → ℕ → List ℕ
fields_at [] k = []
fields_at (t ∷ ts) zero = stream_fields (stream_of t)
fields_at (t ∷ ts) (suc k) = fields_at ts k

-- field f of tile k; one that isn't there gives 0
abbrev pub tile_field : List Tile → ℕ → ℕ → ℕ
tile_field ts k f = get_or (fields_at ts k) f 0
