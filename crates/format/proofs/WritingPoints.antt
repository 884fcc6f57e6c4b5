-- The written stream at points, by computing: codes, rows, header, a block, a packet, and numbers and sizes on both sides of refusals. Assumes nothing.
use Rattle.std.proofs.Common.{◌≡◌, refl, List, [], ◌∷◌, true, false, zero, suc, ℤ, pos, negsuc, get_or}
use Rattle.std.specs.Int.Count.{count_leading_zeros}
use Rattle.format.specs.Lifting.{Signal}
use Rattle.format.specs.Sizes.{final, green}
use Rattle.format.specs.Coefficients.{Coefs}
use Rattle.format.specs.Packets.{sum}
use Rattle.lists.specs.Lists.{rows, tab}
use Rattle.wrap32.specs.Cut.{cut, add_w}
use Rattle.wrap32.specs.Edge.{edge_detail, edge_back}
use Rattle.format.specs.Table.{E}
use Rattle.format.specs.Refusals.{large_refusal, short_refusal}
use Rattle.format.specs.Writing.{too_large, too_far, band_refusal, side_refusal, call_refusal, number_bits, unary_bits, update_bits, run_bits, group_width, zero_groups, next_bits, after_run}
use Rattle.format.specs.Writing.{groups_bits, row_bits, magnitudes, record_bits, filled, whole_record, record_head, head_units, payload_units, packet_head, packet_bits, packet_units, group_units, entry_units, block_bits, header_bits, packed, stream_length}

-- ---- width updates: document 01's points, written
kept-0 : update_bits 0 0 ≡ 0 ∷ []
unfolding update_bits
kept-0 = refl

up-0-2 : update_bits 0 2 ≡ 1 ∷ 0 ∷ 0 ∷ 1 ∷ []
unfolding update_bits unary_bits
up-0-2 = refl

down-5-3 : update_bits 5 3 ≡ 1 ∷ 1 ∷ 0 ∷ 1 ∷ []
unfolding update_bits unary_bits
down-5-3 = refl

down-5-0 : update_bits 5 0 ≡ 1 ∷ 1 ∷ 0 ∷ 0 ∷ 0 ∷ 0 ∷ []
unfolding update_bits
down-5-0 = refl

down-1-0 : update_bits 1 0 ≡ 1 ∷ 1 ∷ []
unfolding update_bits
down-1-0 = refl

-- ---- zero runs
run-5-5 : run_bits 5 5 ≡ 0 ∷ 0 ∷ 0 ∷ []
unfolding run_bits count_leading_zeros
run-5-5 = refl

run-5-3 : run_bits 5 3 ≡ 0 ∷ 1 ∷ 1 ∷ []
unfolding run_bits unary_bits number_bits count_leading_zeros
run-5-3 = refl

run-1-1 : run_bits 1 1 ≡ []
unfolding run_bits count_leading_zeros
run-1-1 = refl

-- ---- rows
abbrev line : List ℤ → Signal
line l x = get_or l x (pos 7)

row-a : row_bits 10 (line (pos 3 ∷ negsuc 0 ∷ pos 0 ∷ pos 0 ∷ pos 0 ∷ pos 0 ∷ pos 0 ∷ pos 0 ∷ pos 0 ∷ pos 0 ∷ []))
    ≡ 1 ∷ 0 ∷ 0 ∷ 1 ∷ 1 ∷ 1 ∷ 0 ∷ 1 ∷ 0 ∷ 0 ∷ 0 ∷ 0 ∷ 1 ∷ 1 ∷ 0 ∷ 0 ∷ 1 ∷ 0 ∷ []
unfolding row_bits groups_bits group_width zero_groups next_bits after_run update_bits unary_bits run_bits number_bits count_leading_zeros
row-a = refl

row-b : row_bits 5 (line (pos 9 ∷ pos 0 ∷ pos 0 ∷ pos 0 ∷ pos 1 ∷ [])) ≡ 1 ∷ 0 ∷ 0 ∷ 0 ∷ 0 ∷ 1 ∷ 1 ∷ 0 ∷ 0 ∷ 1 ∷ 0 ∷ 0 ∷ 0 ∷ 0 ∷ 0 ∷ 0 ∷ 0 ∷ 0 ∷ 0 ∷ 0 ∷ 0 ∷ 0 ∷ 1 ∷ 1 ∷ 0 ∷ 0 ∷ 1 ∷ 0 ∷ 1 ∷ 0 ∷ 0 ∷ 0 ∷ 0 ∷ []
unfolding row_bits groups_bits group_width zero_groups next_bits after_run update_bits unary_bits run_bits number_bits count_leading_zeros
row-b = refl

row-c : row_bits 7 (λ x. pos 0) ≡ 0 ∷ 0 ∷ []
unfolding row_bits groups_bits group_width zero_groups next_bits after_run update_bits unary_bits run_bits number_bits count_leading_zeros
row-c = refl

-- ---- an all-zero tile of 16 by 16: header and directory
abbrev none : Coefs
none g i c r x = pos 0

header-16 : packed (header_bits 16 16 none) ≡ 65 ∷ 48 ∷ 48 ∷ 48 ∷ 0 ∷ 0 ∷ 0 ∷ 0 ∷ 0 ∷ 16 ∷ 0 ∷ 8 ∷ 1 ∷ 0 ∷ 108 ∷ 0 ∷ 0 ∷ 0 ∷ 6 ∷ 0 ∷ 0 ∷ 6 ∷ 0 ∷ 0 ∷ 6 ∷ 0 ∷ 0 ∷ 6 ∷ 0 ∷ 0 ∷ 2 ∷ 0 ∷ 0 ∷ 0 ∷ 0 ∷ 0 ∷ 0 ∷ 0 ∷ 0 ∷ 0 ∷ 0 ∷ 0 ∷ 0 ∷ 0 ∷ 0 ∷ 0 ∷ 0 ∷ 0 ∷ []
unfolding packed tab header_bits group_units sum packet_units head_units payload_units record_bits magnitudes number_bits rows
header-16 = refl

block-16 : packed (block_bits 16 16 none 4) ≡ 1 ∷ 0 ∷ 0 ∷ 2 ∷ 0 ∷ 0 ∷ 0 ∷ 0 ∷ 0 ∷ 0 ∷ 0 ∷ 0 ∷ 0 ∷ 0 ∷ 0 ∷ 0 ∷ []
unfolding packed tab block_bits entry_units sum packet_units head_units payload_units record_bits magnitudes number_bits rows
block-16 = refl

-- one coefficient of 1: group 4's packet
abbrev single : Coefs
single g i c zero zero = pos 1
single g i c zero (suc x) = pos 0
single g i c (suc r) x = pos 0

packet-16 : packed (packet_bits 16 16 single final green) ≡ 0 ∷ 1 ∷ 0 ∷ 0 ∷ 1 ∷ 64 ∷ 64 ∷ 0 ∷ 2 ∷ 16 ∷ 0 ∷ 0 ∷ 0 ∷ 0 ∷ 0 ∷ 0 ∷ 0 ∷ 3 ∷ 0 ∷ 0 ∷ 0 ∷ 0 ∷ 0 ∷ 0 ∷ 0 ∷ 0 ∷ 0 ∷ 0 ∷ 0 ∷ 0 ∷ 0 ∷ 0 ∷ 177 ∷ 128 ∷ 0 ∷ 0 ∷ 0 ∷ 0 ∷ 0 ∷ 0 ∷ 0 ∷ 0 ∷ 0 ∷ 0 ∷ 0 ∷ 0 ∷ 0 ∷ 0 ∷ []
unfolding packed tab packet_bits packet_head filled record_head whole_record record_bits magnitudes sum head_units payload_units number_bits rows row_bits groups_bits group_width zero_groups next_bits after_run update_bits unary_bits run_bits count_leading_zeros
packet-16 = refl

length-16 : stream_length 16 16 none ≡ 544
unfolding stream_length group_units sum packet_units head_units payload_units record_bits magnitudes
length-16 = refl

-- ---- refusals, on the line
large : (too_large (pos 524287) ≡ 0) × (too_large (pos 524288) ≡ 25) × (too_large (negsuc 524286) ≡ 0) × (too_large (negsuc 524287) ≡ 25)
large = (refl, refl, refl, refl)

far : (too_far (pos 32767) ≡ 0) × (too_far (pos 32768) ≡ 25) × (too_far (negsuc 32767) ≡ 0) × (too_far (negsuc 32768) ≡ 25)
unfolding cut
far = (refl, refl, refl, refl)

-- 2 and 5 are values of E, 1 and 3 are none; in odd mode 3 is one
edge : (band_refusal false (E 0 0) (pos 2) ≡ 0) × (band_refusal false (E 0 0) (pos 5) ≡ 0) × (band_refusal false (E 0 0) (pos 1) ≡ 25) × (band_refusal false (E 0 0) (pos 3) ≡ 25) × (band_refusal true (E 0 0) (pos 3) ≡ 0)
unfolding edge_detail edge_back add_w cut
edge = (refl, refl, refl, refl, refl)

sizes : (side_refusal 16 16 ≡ 0) × (side_refusal 0 16 ≡ 2) × (side_refusal 24 16 ≡ 2) × (side_refusal 65520 131070 ≡ 0) × (side_refusal 65536 16 ≡ 2) × (side_refusal 16 131072 ≡ 2) × (side_refusal 16 17 ≡ 2) × (side_refusal 16 0 ≡ 2)
unfolding side_refusal
sizes = (refl, refl, refl, refl, refl, refl, refl, refl)

-- 2, then 3, 4, 20 and 24: at H 14, R is 4 and n is 1
calls : (call_refusal 16 14 64 32 32 512 ≡ 24) × (call_refusal 16 14 63 32 32 512 ≡ 4) × (call_refusal 16 32768 262144 131072 131072 524544 ≡ 20) × (call_refusal 16 32768 262143 131072 131072 524544 ≡ 4) × (call_refusal 65520 65536 0 0 0 0 ≡ 3) × (call_refusal 16 16 128 64 64 512 ≡ 0) × (call_refusal 16 16 128 64 64 511 ≡ 4)
unfolding call_refusal side_refusal large_refusal short_refusal
calls = (refl, refl, refl, refl, refl, refl, refl)
