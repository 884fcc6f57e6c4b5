-- Bits that small records take, computed: two rows of 8 columns under selector 0. Assumes nothing.
use Rattle.std.proofs.Common.{◌≡◌, refl, List, [], ◌∷◌, ℕ}
use Rattle.std.specs.Int.Count.{count_leading_zeros}
use Rattle.format.specs.Bits.{bit_at, bits_at, zeros_at}
use Rattle.format.specs.Packets.{sum, kind, record_bit, record_length, selector, payload_at}
use Rattle.format.specs.Reader.{Reader, read_of, unary_of, find_of, update_of, update_first, update_second, run_of, run_found}
use Rattle.format.specs.Coefficients.{value_of, sign_of, four_of, signs_of, width_next, group_of, width_after, zeros_of, row_step, row_from, row_of, rows_of}
use Rattle.format.specs.Used.{row_used, rows_used, record_used}
use Rattle.format.proofs.Places.{small_packet, long_unary}

-- a record of so many bytes whose payload starts with a and c, with 0 between them and after
abbrev payload : ℕ → ℕ → ℕ → List ℕ
payload bytes a c =
    0 ∷ 1 ∷ 0 ∷ 0 ∷ 1 ∷ 0x40 ∷ 0x40 ∷ 0 ∷ 1 ∷ 16 ∷ 0 ∷ 0 ∷ 0 ∷ 0 ∷ 0 ∷ 0
    ∷ 0 ∷ bytes ∷ 0 ∷ 0 ∷ 0 ∷ 0 ∷ 0 ∷ 0 ∷ 0 ∷ 0 ∷ 0 ∷ 0 ∷ 0 ∷ 0 ∷ 0 ∷ 0
    ∷ a ∷ 0 ∷ c ∷ 0 ∷ 0 ∷ 0 ∷ 0 ∷ 0 ∷ 0 ∷ 0 ∷ 0 ∷ 0 ∷ 0 ∷ 0 ∷ 0 ∷ 0 ∷ []

-- the record of `small_packet` from its start
abbrev start : Reader
start = record { place = 256; remaining = 128; status = 0 }

abbrev used : List ℕ → ℕ
used p = record_used p 2 8 0

pub record Bits : Type 0 where
  -- a row; the record, which runs out in its second
  pub first-row : row_used small_packet 0 8 start ≡ 119
  pub runs-out : used small_packet ≡ 128
  -- zeros alone: for each row a bit that keeps width 0, and the one zero of a run to the end
  pub zero-rows : used (payload 16 0 0) ≡ 4
  -- byte length 0 takes nothing, whatever follows
  pub no_bytes : used (payload 0 0x80 4) ≡ 0
  -- 22 bits tell width 20, and the record is broken; the second row's opening read takes one more
  pub broken : used (payload 16 0x80 4) ≡ 23
  -- a unary that ends with the allowance, and one that runs past it: no bit is left for the second row
  pub broken-at-the-end : used (long_unary 1) ≡ 128
  pub spent-by-a-unary : used (long_unary 0) ≡ 128

pub bits : Bits
unfolding bit_at bits_at zeros_at sum record_bit record_length selector payload_at read_of unary_of find_of update_of update_first update_second run_of run_found count_leading_zeros value_of sign_of four_of signs_of width_next group_of width_after zeros_of row_step row_from row_of rows_of row_used rows_used record_used
bits =
    record {
      first-row = refl;
      runs-out = refl;
      zero-rows = refl;
      no_bytes = refl;
      broken = refl;
      broken-at-the-end = refl;
      spent-by-a-unary = refl;
    }
