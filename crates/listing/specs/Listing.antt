-- The text that the program `tiles` prints: document 01, 'Points on the line'. Text is a list of ASCII codes.
use Rattle.std.specs.Prelude.{List, [], ◌∷◌, ◌++◌, cond, ℕ, zero, suc, ◌+◌, ◌/◌, ◌%◌, ltb, length, get_or, drop}
use Rattle.lists.specs.Lists.{rows}
use Rattle.format.specs.Bits.{little32}
use Rattle.format.specs.Strip.{Tile, tiles_of}
use Rattle.strip.specs.declared.TileStream.{TileStream}
use Rattle.strip.specs.Answers.{zero_stream, stream_fields, fields_at}

-- at most k decimal digits of n, the most significant first
unfoldable pub digits : ℕ → ℕ → List ℕ
digits zero n = []
digits (suc k) n = cond (ltb n 10) ((48 + n) ∷ []) (digits k (n / 10) ++ ((48 + n % 10) ∷ []))

-- n in decimal; every number of 64 bits has at most 20 digits
unfoldable pub decimal : ℕ → List ℕ
decimal n = digits 20 n

-- a number and the byte after it
abbrev pub ended : ℕ → ℕ → List ℕ
ended n end = decimal n ++ (end ∷ [])

-- numbers on a line, a space between them
abbrev pub line : List ℕ → List ℕ
line [] = []
line (n ∷ []) = ended n 10
line (n ∷ m ∷ rest) = ended n 32 ++ line (m ∷ rest)

-- line k of an array of tile records
abbrev pub line_at : List TileStream → ℕ → List ℕ
line_at tiles k = line (stream_fields (get_or tiles k zero_stream))

-- "tiles "
abbrev pub tiles_word : List ℕ
tiles_word = 116 ∷ 105 ∷ 108 ∷ 101 ∷ 115 ∷ 32 ∷ []

-- "too long"
abbrev pub too_long : List ℕ
too_long = 116 ∷ 111 ∷ 111 ∷ 32 ∷ 108 ∷ 111 ∷ 110 ∷ 103 ∷ 10 ∷ []

-- "too short"
abbrev pub too_short : List ℕ
too_short = 116 ∷ 111 ∷ 111 ∷ 32 ∷ 115 ∷ 104 ∷ 111 ∷ 114 ∷ 116 ∷ 10 ∷ []

-- how many tiles, then a line of the six fields of each
unfoldable pub listing : List Tile → List ℕ
listing ts = tiles_word ++ (ended (length ts) 10 ++ rows (length ts) (λ k. line (fields_at ts k)))

-- the answer to an input: frame width and height, then a strip, 65,536 bytes in all
unfoldable pub response : List ℕ → List ℕ
response input =
    cond (ltb 65536 (length input)) too_long
    (cond (ltb (length input) 8) too_short
    (listing (tiles_of (drop 8 input) (little32 input 0) (little32 input 4))))
