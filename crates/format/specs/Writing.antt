-- The stream that is written from planes, and what a call of `write_stream` gives: document 02, Job 2, over document 01's 'Strip', 'Directory and
-- packets', 'Coefficients' and 'Recovery'. Selectors are 0.
use Rattle.std.specs.Prelude.{List, [], ◌∷◌, ◌++◌, Bool, not, cond, ◌||◌, ℕ, zero, suc, ◌+◌, ◌-◌, ◌*◌, ◌/◌, ◌%◌, ◌^◌, max, ℤ, pos, negsuc, nat_abs, length, get_or, drop, replicate, leb, ltb, eqb}
use Rattle.std.specs.Int.{w16}
use Rattle.wrap32.specs.Cut.{cut, sub_w}
use Rattle.wrap32.specs.Arithmetic.{wrapping}
use Rattle.wrap32.specs.Edge.{eq_z, edge_detail}
use Rattle.lists.specs.Lists.{tab, rows}
use Rattle.format.specs.Lifting.{Signal, Plane}
use Rattle.format.specs.Sizes.{Colour, green, red, blue, Level, l1, l2, l3, Group, base, detail, final, stripes, guarded, multiplier, components, columns, plane_rows, work_length, numbered, indexed}
use Rattle.format.specs.Table.{height, highs, Source, S, E, Band, hl, lh, hh, source, band_rows, mode}
use Rattle.format.specs.Packets.{sum}
use Rattle.format.specs.Refusals.{◌▷◌, on, each, large_refusal, short_refusal}
use Rattle.format.specs.Reader.{bit_length}
use Rattle.format.specs.Coefficients.{Coefs, zeros}
use Rattle.format.specs.Recovery.{read_plane, d_of, back, before, unstep, given, unband, out_of, recover}
use Rattle.format.specs.Tile.{accepted}

-- ---- numbers, most significant bit first; a unary k is k - 1 zeros and a one
unfoldable pub number_bits : ℕ → ℕ → List ℕ
number_bits zero v = []
number_bits (suc n) v = number_bits n (v / 2) ++ (v % 2 ∷ [])

abbrev pub zero_bits : ℕ → List ℕ
zero_bits n = replicate n 0

unfoldable pub unary_bits : ℕ → List ℕ
unary_bits k = zero_bits (k - 1) ++ (1 ∷ [])

-- ---- a width update from a to b: kept, a single 0; larger, 10 and the difference in unary; smaller, 11 and the search's code: where b is 0 no
-- one is found among a - 1 bits, else the one comes after a - b - 1 zeros
unfoldable pub update_bits : ℕ → ℕ → List ℕ
update_bits a b =
    cond (eqb a b) (0 ∷ [])
    (cond (ltb a b) (1 ∷ 0 ∷ unary_bits (b - a)) (1 ∷ 1 ∷ cond (eqb b 0) (zero_bits (a - 1)) (unary_bits (a - b))))

-- ---- a zero run of k groups where g are left: to the end of the row, zeros alone; else z zeros, a one and z bits, 2^z plus these being k
unfoldable pub run_bits : ℕ → ℕ → List ℕ
run_bits g k =
    cond (eqb k g) (zero_bits (bit_length (g - 1)))
    (unary_bits (bit_length k) ++ number_bits (bit_length k - 1) (k - 2 ^ (bit_length k - 1)))

-- ---- a sign bit, only of what is not 0; 1 is negative
abbrev pub sign_bits : ℤ → List ℕ
sign_bits (pos zero) = []
sign_bits (pos (suc n)) = 0 ∷ []
sign_bits (negsuc n) = 1 ∷ []

-- ---- a row: f has a number for each column, and 0 past the last
module _ (f : Signal) where
  -- the smallest width that holds the four magnitudes of group j
  unfoldable pub group_width : ℕ → ℕ
  group_width j =
      bit_length (max (max (nat_abs (f (4 * j))) (nat_abs (f (4 * j + 1)))) (max (nat_abs (f (4 * j + 2))) (nat_abs (f (4 * j + 3)))))

  -- the zero groups from group j on, at most g
  unfoldable pub zero_groups : ℕ → ℕ → ℕ
  zero_groups j zero = 0
  zero_groups j (suc g) = cond (eqb (group_width j) 0) (suc (zero_groups (suc j) g)) 0

  -- the four magnitudes of group j in its width; its signs
  abbrev pub value_bits : ℕ → ℕ → List ℕ
  value_bits n j =
      number_bits n (nat_abs (f (4 * j))) ++ (number_bits n (nat_abs (f (4 * j + 1))) ++ (number_bits n (nat_abs (f (4 * j + 2)))
      ++ number_bits n (nat_abs (f (4 * j + 3)))))

  abbrev pub signs_bits : ℕ → List ℕ
  signs_bits j = sign_bits (f (4 * j)) ++ (sign_bits (f (4 * j + 1)) ++ (sign_bits (f (4 * j + 2)) ++ sign_bits (f (4 * j + 3))))

  -- the width after group j, of which g groups are left with itself: an update unless it is the last
  unfoldable pub next_bits : ℕ → ℕ → List ℕ
  next_bits j g = cond (leb g 1) [] (update_bits (group_width j) (group_width (j + 1)))

  -- after a run of k groups, of g: the width of the next one in unary
  unfoldable pub after_run : (ℕ → ℕ → List ℕ) → ℕ → ℕ → ℕ → List ℕ
  after_run rest j g k = cond (eqb k g) [] (unary_bits (group_width (j + k)) ++ rest (j + k) (g - k))

  -- g groups from group j on, whose width is known; each turn writes one or more, so as many turns as groups are enough
  unfoldable pub groups_bits : ℕ → ℕ → ℕ → List ℕ
  groups_bits zero j g = []
  groups_bits (suc turns) j g =
      cond (eqb g 0) []
      (cond (eqb (group_width j) 0) (run_bits g (zero_groups j g) ++ after_run (groups_bits turns) j g (zero_groups j g))
      (value_bits (group_width j) j ++ (next_bits j g ++ (signs_bits j ++ groups_bits turns (j + 1) (g - 1)))))

-- values past the last column are 0
abbrev pub padded : ℕ → Signal → Signal
padded n f x = cond (ltb x n) (f x) (pos 0)

-- a row of n columns; the width starts as an update of 0
unfoldable pub row_bits : ℕ → Signal → List ℕ
row_bits n f = update_bits 0 (group_width (padded n f) 0) ++ groups_bits (padded n f) ((n + 3) / 4) 0 ((n + 3) / 4)

-- ---- record k of a packet, whose components are the planes v 0, v 1, ..: components in turn, m rows each
abbrev pub record_row : (ℕ → Plane) → ℕ → ℕ → ℕ → Signal
record_row v m k q = v (q / m) (k * m + q % m)

-- 0 for an all-zero record
unfoldable pub magnitudes : (ℕ → Plane) → ℕ → ℕ → ℕ → ℕ → ℕ
magnitudes v m cols n k = sum (λ q. sum (λ x. nat_abs (record_row v m k q x)) cols) n

-- n rows of it; an all-zero record has none
unfoldable pub record_bits : (ℕ → Plane) → ℕ → ℕ → ℕ → ℕ → List ℕ
record_bits v m cols n k = cond (eqb (magnitudes v m cols n k) 0) [] (rows n (λ q. row_bits cols (record_row v m k q)))

-- ---- bits of a packet and of the stream, highest first, in one list; those that no rule names are 0

-- the fewest units of k bits that hold the bits b, and b filled up to these with zeros
abbrev pub units : ℕ → List ℕ → ℕ
units k b = (length b + (k - 1)) / k

unfoldable pub filled : ℕ → List ℕ → List ℕ
filled k b = b ++ zero_bits (units k b * k - length b)

-- groups 0 to 3 have three packets each and group 4 one
abbrev pub entries : Group → ℕ
entries base = 3
entries (detail l) = 3
entries final = 1

-- n + 1 records always
abbrev pub records : ℕ → ℕ
records H = stripes H + 1

-- the units up to a packet's payload, which starts at the first one after the record headers
unfoldable pub head_units : ℕ → Group → ℕ
head_units H g = (128 + (16 + 4 * components g) * records H + 127) / 128

-- from coefficients v of a tile of coded size w, H
module _ (w H : ℕ) (v : Coefs) where
  -- ---- a packet

  -- record k, filled up to the fewest whole bytes; its header: their number, and selectors of 0
  unfoldable pub whole_record : Group → Colour → ℕ → List ℕ
  whole_record g i k = filled 8 (record_bits (v g i) (multiplier g) (columns w g) (components g * multiplier g) k)

  abbrev pub record_bytes : Group → Colour → ℕ → ℕ
  record_bytes g i k = units 8 (record_bits (v g i) (multiplier g) (columns w g) (components g * multiplier g) k)

  -- and the bits of the packet's records, before they are filled up
  abbrev pub records_bits : Group → Colour → ℕ
  records_bits g i = sum (λ k. length (record_bits (v g i) (multiplier g) (columns w g) (components g * multiplier g) k)) (records H)

  unfoldable pub record_head : Group → Colour → ℕ → List ℕ
  record_head g i k = number_bits 16 (record_bytes g i k) ++ zero_bits (4 * components g)

  -- the units of its payload
  unfoldable pub payload_units : Group → Colour → ℕ
  payload_units g i = (sum (record_bytes g i) (records H) + 15) / 16

  -- control, extra, tag, zero 4, kind, zero 6, blocks, marker, zero 8, padding
  unfoldable pub packet_head : Group → Colour → List ℕ
  packet_head g i =
      number_bits 16 (head_units H g - 1) ++ (number_bits 24 (payload_units g i) ++ (number_bits 4 4 ++ (zero_bits 4 ++ (number_bits 2 (components g) ++ (zero_bits 6
      ++ (number_bits 16 (records H) ++ (number_bits 8 16 ++ (zero_bits 8 ++ zero_bits 40))))))))

  unfoldable pub packet_bits : Group → Colour → List ℕ
  packet_bits g i =
      filled 128 (packet_head g i ++ rows (records H) (record_head g i)) ++ filled 128 (rows (records H) (whole_record g i))

  unfoldable pub packet_units : Group → Colour → ℕ
  packet_units g i = head_units H g + payload_units g i

  -- ---- a group: its packets, and its size, the sum of theirs
  unfoldable pub group_bits : ℕ → List ℕ
  group_bits g = rows (entries (numbered g)) (λ k. packet_bits (numbered g) (indexed k))

  unfoldable pub group_units : ℕ → ℕ
  group_units g = sum (λ k. packet_units (numbered g) (indexed k)) (entries (numbered g))

  -- ---- the directory: a block of 16 bytes for each group, the entry count in the low four bits of its first byte, then five lengths
  unfoldable pub entry_units : ℕ → ℕ → ℕ
  entry_units g k = cond (ltb k (entries (numbered g))) (packet_units (numbered g) (indexed k)) 0

  unfoldable pub block_bits : ℕ → List ℕ
  block_bits g = zero_bits 4 ++ (number_bits 4 (entries (numbered g)) ++ rows 5 (λ k. number_bits 24 (entry_units g k)))

  -- ---- the header: "A000", w at 8, half height at 10; at 12, bits 4 to 9 equal 16; at 14, top three bits 3 and bits 10 and 11 both set; the
  -- group sizes at 16, and zeros up to 48
  unfoldable pub header_bits : List ℕ
  header_bits =
      number_bits 32 0x41303030 ++ (zero_bits 32 ++ (number_bits 16 w ++ (number_bits 16 (H / 2) ++ (number_bits 16 0x0100 ++ (number_bits 16 0x6C00
      ++ (rows 5 (λ g. number_bits 24 (group_units g)) ++ zero_bits 136))))))

  unfoldable pub stream_bits : List ℕ
  stream_bits = header_bits ++ (rows 5 block_bits ++ rows 5 group_bits)

  -- the stream's length in bytes
  unfoldable pub stream_length : ℕ
  stream_length = 128 + 16 * sum group_units 5

-- eight bits to a byte
abbrev pub byte_at : List ℕ → ℕ → ℕ
byte_at b k =
    get_or b (8 * k) 0 * 2 ^ 7 + get_or b (8 * k + 1) 0 * 2 ^ 6 + get_or b (8 * k + 2) 0 * 2 ^ 5 + get_or b (8 * k + 3) 0 * 2 ^ 4
    + get_or b (8 * k + 4) 0 * 2 ^ 3 + get_or b (8 * k + 5) 0 * 2 ^ 2 + get_or b (8 * k + 6) 0 * 2 + get_or b (8 * k + 7) 0

unfoldable pub packed : List ℕ → List ℕ
packed b = tab (length b / 8) (byte_at b)

unfoldable pub stream_of : ℕ → ℕ → Coefs → List ℕ
stream_of w H v = packed (stream_bits w H v)

-- ---- 2: a width or height that no valid header holds: w of 16 bits, nonzero, a multiple of 16; H twice a nonzero number of 16 bits
unfoldable pub side_refusal : ℕ → ℕ → ℕ
side_refusal w H = on (eqb w 0 || not (eqb (w % 16) 0) || ltb 65535 w || eqb H 0 || not (eqb (H % 2) 0) || ltb 131070 H) 2

-- ---- 25, number by number
-- a coefficient above 524,287 in magnitude
abbrev pub too_large : ℤ → ℕ
too_large z = on (ltb 524287 (nat_abs z)) 25

-- a band-0 step that leaves signed 16 bits
abbrev pub too_far : ℤ → ℕ
too_far z = on (not (eq_z (cut w16 z) z)) 25

-- a number of a band, by where it goes: an edge value that is no value of E; else its coefficient
abbrev pub band_refusal : Bool → Source → ℤ → ℕ
band_refusal odd (S c r) z = too_large z
band_refusal odd (E c r) z = on (not (eq_z (edge_detail wrapping odd (back odd (E c r) z)) z)) 25 ▷ too_large (back odd (E c r) z)

-- all places of h rows of w
abbrev pub places : ℕ → ℕ → (ℕ → ℕ → ℕ) → ℕ
places h w f = each (λ y. each (f y) w) h

-- all of a tile, by whether H is guarded, n and w, in the order of recovery (each check has the same number)
module _ (g : Bool) (n w : ℕ) where
  -- of an index, from what came out of its three levels
  module _ (i : Colour) (out : Plane) where
    abbrev pub step_at : Plane
    step_at y x = sub_w (unstep g n w l1 (given g n w l1 out) y x) (before (unstep g n w l1 (given g n w l1 out) y) x)

    abbrev pub level_refusal : Level → Band → ℕ
    level_refusal l b =
        places (band_rows (height g n l) (highs g l (height g n l)) b) (columns w (detail l))
        (λ y x. band_refusal (mode l i) (source g l (height g n l) b y) (unband g n w l (given g n w l out) b y x))

    unfoldable pub bands_refusal : Level → ℕ
    bands_refusal l = level_refusal l hh ▷ level_refusal l lh ▷ level_refusal l hl

    unfoldable pub index_refusal : ℕ
    index_refusal = bands_refusal l3 ▷ bands_refusal l2 ▷ bands_refusal l1 ▷ places (height g n l1) (w / 16) (λ y x. too_far (step_at y x))

  -- of the planes p
  unfoldable pub numbers_refusal : (Colour → List ℤ) → ℕ
  numbers_refusal p =
      index_refusal green (out_of g n w p green) ▷ index_refusal red (out_of g n w p red) ▷ index_refusal blue (out_of g n w p blue)
      ▷ places (plane_rows g n) (w / 2) (λ y x. too_large (d_of (plane_rows g n) (read_plane w (p green)) y x))

-- ---- 26: a record above 65,535 bytes, a group above 268,435,440
unfoldable pub lengths_refusal : ℕ → ℕ → Coefs → ℕ
lengths_refusal w H v =
    each (λ g. each (λ k. each (λ r. on (ltb 65535 (record_bytes w H v (numbered g) (indexed k) r)) 26) (records H)) (entries (numbered g))) 5
    ▷ each (λ g. on (ltb 268435440 (16 * group_units w H v g)) 26) 5

-- ---- the refusals of a call, in order: before anything is changed; and after the work slice is used
unfoldable pub call_refusal : ℕ → ℕ → ℕ → ℕ → ℕ → ℕ → ℕ
call_refusal w H green_n red_n blue_n work_n =
    side_refusal w H ▷ large_refusal w H ▷ short_refusal w H green_n red_n blue_n work_n ▷ on (ltb 32767 H) 20 ▷ on (ltb H 16) 24

unfoldable pub planes_refusal : ℕ → ℕ → (Colour → List ℤ) → ℕ → ℕ
planes_refusal w H p stream_n =
    numbers_refusal (guarded H) (stripes H) w p ▷ lengths_refusal w H (recover w H p) ▷ on (ltb stream_n (stream_length w H (recover w H p))) 4

-- ---- the answer, and the two slices after a call
pub record Written : Type 0 where
  pub refusal : ℕ
  pub length : ℕ

module _ (w H : ℕ) (p : Colour → List ℤ) (work : List ℤ) (stream : List ℕ) where
  unfoldable pub write_refusal : ℕ
  write_refusal = call_refusal w H (length (p green)) (length (p red)) (length (p blue)) (length work) ▷ planes_refusal w H p (length stream)

  unfoldable pub written_of : Written
  written_of = record { refusal = write_refusal; length = cond (accepted write_refusal) (stream_length w H (recover w H p)) 0 }

  -- the work slice is zero once the call itself is not refused, whatever comes of the planes
  unfoldable pub work_left : List ℤ
  work_left =
      cond (accepted (call_refusal w H (length (p green)) (length (p red)) (length (p blue)) (length work)))
      (zeros (work_length w H) ++ drop (work_length w H) work) work

  unfoldable pub stream_left : List ℕ
  stream_left = cond (accepted write_refusal) (stream_of w H (recover w H p) ++ drop (stream_length w H (recover w H p)) stream) stream
