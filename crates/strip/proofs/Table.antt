-- Laws of the table's tiles, and of a strip's. Assumes nothing.
use Rattle.std.proofs.Common.{◌≡◌, ℕ, zero, suc, ◌+◌, ◌≤◌, ◌<◌, List, [], ◌∷◌, ◌++◌, map, length, get_or, slice_get, Result, Ok, Err, Option, Some, None, option_map, Bool, true, false, cond, refl, sym, ap, ◌∙◌, arith, add-zero, zero-add, length-append, ⊎_elim, ◌≢◌, le-ltb, ne_eqb, ltb, eqb, ◌||◌}
use Rattle.std.specs.Option.{option_or, option_map_or}
use Rattle.std.proofs.lemmas.Bool.Decides.{nat_tests}
use Rattle.refusals.specs.declared.Refusal.{Refusal}
use Rattle.wrap32.proofs.Laws.{of-cond}
use Rattle.format.proofs.BitLaws.{le-or-lt}
use Rattle.format.specs.Bits.{little32}
use Rattle.format.specs.Strip.{Tile, and_tile, entry_tile, entry_tiles, table_or, has_table, listed, alone, tiles_of}
use Rattle.strip.specs.declared.TileStream.{TileStream}
use Rattle.strip.specs.Answers.{stream_of, located_tile_of, listed_of, located_of, table_tiles, stream_fields, fields_at, tile_field}

-- one more tile at the end
abbrev pub snoc : Option (List Tile) → Option Tile → Option (List Tile)
snoc (Some ts) (Some t) = Some (ts ++ t ∷ [])
snoc (Some ts) None = None
snoc None o = None

first_one : (o : Option Tile) → and_tile o (Some []) ≡ snoc (Some []) o
first_one (Some t) = refl
first_one None = refl

swap : (o : Option Tile) (r : Option (List Tile)) (p : Option Tile) → and_tile o (snoc r p) ≡ snoc (and_tile o r) p
swap (Some t) (Some ts) (Some u) = refl
swap (Some t) (Some ts) None = refl
swap (Some t) None p = refl
swap None r p = refl

snoc-none : (r : Option (List Tile)) → snoc r None ≡ None
snoc-none (Some ts) = refl
snoc-none None = refl

failed : (o : Option Tile) → located_tile_of o ≡ None → o ≡ None
failed (Some t) e = cc
failed None e = refl

-- the records of the tiles, if there are all
abbrev pub recorded : Option (List Tile) → Option (List TileStream)
recorded r = option_map (map stream_of) r

map_snoc : (ts : List Tile) (t : Tile) → map stream_of (ts ++ t ∷ []) ≡ map stream_of ts ++ stream_of t ∷ []
map_snoc [] t = refl
map_snoc (u ∷ ts) t = ap (λ l. stream_of u ∷ l) (map_snoc ts t)

one_more : (r : Option (List Tile)) (o : Option Tile) (tiles : List TileStream) (t : TileStream) → recorded r ≡ Some tiles → located_tile_of o ≡ Some t
    → recorded (snoc r o) ≡ Some (tiles ++ t ∷ [])
one_more (Some ts) (Some u) tiles t e found = let both = map_snoc ts u in cc
one_more (Some ts) None tiles t e found = cc
one_more None o tiles t e found = cc

module _ (strip : List ℕ) (w h : ℕ) where
  entries-snoc : (a n : ℕ) → entry_tiles strip w h a (suc n) ≡ snoc (entry_tiles strip w h a n) (entry_tile strip w h (a + n))
  unfolding entry_tiles
  entries-snoc a zero = rw (add-zero a) (first_one (entry_tile strip w h a))
  entries-snoc a (suc n) =
      let next : suc a + n ≡ a + suc n = omega arith in
      ap (and_tile (entry_tile strip w h a)) (entries-snoc (suc a) n ∙ ap (λ (k : ℕ). snoc (entry_tiles strip w h (suc a) n) (entry_tile strip w h k)) next)
      ∙ swap (entry_tile strip w h a) (entry_tiles strip w h (suc a) n) (entry_tile strip w h (a + suc n))

  snoc-last : (n : ℕ) → entry_tiles strip w h 0 (suc n) ≡ snoc (entry_tiles strip w h 0 n) (entry_tile strip w h n)
  snoc-last n = entries-snoc 0 n ∙ ap (λ (k : ℕ). snoc (entry_tiles strip w h 0 n) (entry_tile strip w h k)) (zero-add n)

  -- one failed entry drops all
  pub entries-fail : (i n : ℕ) → entry_tile strip w h i ≡ None → i < n → entry_tiles strip w h 0 n ≡ None
  entries-fail i zero bad less = absurd (omega arith)
  entries-fail i (suc n) bad less =
      ⊎_elim
      (λ low. snoc-last n ∙ ap (λ (r : Option (List Tile)). snoc r (entry_tile strip w h n)) (entries-fail i n bad low))
      (λ high. let same : i ≡ n = omega arith in
      snoc-last n ∙ ap (snoc (entry_tiles strip w h 0 n)) (ap (entry_tile strip w h) (sym same) ∙ bad) ∙ snoc-none (entry_tiles strip w h 0 n))
      (le-or-lt (suc i) n)

  -- what the entries before i gave
  abbrev pub Gathered : List TileStream → ℕ → Type 0
  Gathered tiles i = (recorded (entry_tiles strip w h 0 i) ≡ Some tiles) × (length tiles ≡ i)

  pub gathered_on : (tiles : List TileStream) (i : ℕ) (t : TileStream) → Gathered tiles i → located_tile_of (entry_tile strip w h i) ≡ Some t
      → Gathered (tiles ++ t ∷ []) (i + 1)
  gathered_on tiles i t (same, long) found =
      let next : i + 1 ≡ suc i = omega arith in (
        rw (next, snoc-last i) (one_more (entry_tiles strip w h 0 i) (entry_tile strip w h i) tiles t same found),
        omega (arith, long, length-append tiles (t ∷ [])),
      )

  -- an entry that fails
  pub gathered_fail : (i n : ℕ) → located_tile_of (entry_tile strip w h i) ≡ None → i < n → n ≡ little32 strip 0 → table_tiles strip w h ≡ []
  unfolding table_tiles
  gathered_fail i n bad less same =
      rw (← same, entries-fail i n (failed (entry_tile strip w h i) bad) less)
      (of-cond (λ (r : Option (List Tile)). table_or r [] ≡ []) (has_table n) None None (λ _. refl) (λ _. refl))

-- ---- the whole strip

-- a table whose tiles are all there is not empty, and decides
decides : (b : Bool) (o : Option Tile) (r : Option (List Tile)) (rest : List Tile) → listed_of (table_or (cond b (and_tile o r) None) rest)
    ≡ option_or (listed_of (table_or (cond b (and_tile o r) None) [])) (listed_of rest)
decides true (Some t) (Some ts) rest = refl
decides true (Some t) None rest = refl
decides true None r rest = refl
decides false o r rest = refl

listed_one : (o : Option Tile) → listed_of (listed o) ≡ option_map (λ t. t ∷ []) (located_tile_of o)
listed_one (Some t) = refl
listed_one None = refl

module _ (strip : List ℕ) (w h : ℕ) where
  table_decides : (n : ℕ) (rest : List Tile) → listed_of (table_or (cond (has_table n) (entry_tiles strip w h 0 n) None) rest)
      ≡ option_or (listed_of (table_or (cond (has_table n) (entry_tiles strip w h 0 n) None) [])) (listed_of rest)
  unfolding entry_tiles
  table_decides zero rest = refl
  table_decides (suc n) rest = decides (has_table (suc n)) (entry_tile strip w h 0) (entry_tiles strip w h 1 n) rest

  -- the tiles of the table; where there are none, offset 512 alone
  pub found_is : w ≢ 0 → h ≢ 0 → 640 ≤ length strip
      → listed_of (tiles_of strip w h) ≡ option_or (listed_of (table_tiles strip w h)) (option_map (λ t. t ∷ []) (located_tile_of (alone strip w h)))
  unfolding tiles_of table_tiles
  found_is wide high long =
      rw (ne_eqb w 0 wide, ne_eqb h 0 high, le-ltb (length strip) 640 long, ← listed_one (alone strip w h)) (table_decides (little32 strip 0) (listed (alone strip w h)))

-- ---- how many tiles there are

one_longer : (o : Option Tile) (r : Option (List Tile)) → length (table_or (and_tile o r) []) ≤ suc (length (table_or r []))
one_longer (Some t) (Some ts) = omega arith
one_longer (Some t) None = omega arith
one_longer None r = omega arith

either_short : (r : Option (List Tile)) (rest : List Tile) → length (table_or r []) ≤ 16 → length rest ≤ 16 → length (table_or r rest) ≤ 16
either_short (Some ts) rest h k = h
either_short None rest h k = k

alone_short : (o : Option Tile) → length (listed o) ≤ 16
alone_short (Some t) = omega arith
alone_short None = omega arith

few : (n : ℕ) → has_table n ≡ true → n ≤ 16
few n h = grind (arith, nat_tests)

module _ (strip : List ℕ) (w h : ℕ) where
  entries_short : (i n : ℕ) → length (table_or (entry_tiles strip w h i n) []) ≤ n
  unfolding entry_tiles
  entries_short i zero = omega arith
  entries_short i (suc n) = omega (arith, one_longer (entry_tile strip w h i) (entry_tiles strip w h (suc i) n), entries_short (suc i) n)

  -- the table lists at most sixteen
  table_short : (n : ℕ) → length (table_or (cond (has_table n) (entry_tiles strip w h 0 n) None) []) ≤ 16
  table_short n =
      of-cond (λ (r : Option (List Tile)). length (table_or r []) ≤ 16) (has_table n) (entry_tiles strip w h 0 n) None
      (λ t. omega (arith, few n t, entries_short 0 n)) (λ _. omega arith)

  -- a strip has at most sixteen
  most : length (tiles_of strip w h) ≤ 16
  unfolding tiles_of
  most =
      of-cond (λ (l : List Tile). length l ≤ 16) (eqb w 0 || eqb h 0 || ltb (length strip) 640) [] _ (λ _. omega arith)
      (λ _. either_short (cond (has_table (little32 strip 0)) (entry_tiles strip w h 0 (little32 strip 0)) None) (listed (alone strip w h)) (table_short (little32 strip 0)) (alone_short (alone strip w h)))

-- ---- the fields of a tile by its number

-- the field of a record that may be missing
abbrev field_in : ℕ → Option TileStream → ℕ
field_in f o = option_map_or (λ t. get_or (stream_fields t) f 0) o 0

fields_in : (ts : List Tile) (k f : ℕ) → tile_field ts k f ≡ field_in f (slice_get (map stream_of ts) k)
unfolding fields_at
fields_in [] k f = refl
fields_in (t ∷ ts) zero f = refl
fields_in (t ∷ ts) (suc k) f = fields_in ts k f

-- the same by the answer for the tiles
abbrev in_located : ℕ → ℕ → Result (List TileStream) Refusal → ℕ
in_located k f (Ok tiles) = field_in f (slice_get tiles k)
in_located k f (Err r) = 0

pub field_is : (ts : List Tile) (k f : ℕ) → tile_field ts k f ≡ in_located k f (located_of ts)
field_is [] k f = fields_in [] k f
field_is (t ∷ ts) k f = fields_in (t ∷ ts) k f

none_past : (ts : List Tile) (k f : ℕ) → length ts ≤ k → tile_field ts k f ≡ 0
unfolding fields_at
none_past [] k f h = refl
none_past (t ∷ ts) zero f h = absurd (omega arith)
none_past (t ∷ ts) (suc k) f h = none_past ts k f (omega arith)

-- from the seventeenth on there is no tile
pub field_past : (strip : List ℕ) (w h k f : ℕ) → 16 ≤ k → tile_field (tiles_of strip w h) k f ≡ 0
field_past strip w h k f past = none_past (tiles_of strip w h) k f (omega (arith, most strip w h))
