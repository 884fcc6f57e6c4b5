-- Planes that begin as those of an accepted call are written as the same stream. Assumes nothing.
use Rattle.std.proofs.Common.{◌≡◌, ◌∙◌, List, ℕ, ◌*◌, ◌≤◌, ◌<◌, arith, ℤ, pos, length, get_or, take, drop, take_at, eq-eqb, le-ltb, w32, SFits}
use Rattle.format.specs.Sizes.{Colour, green, red, blue, Group, stripes, guarded, columns, plane_rows_of, plane_columns, Tall}
use Rattle.format.specs.Refusals.{short_refusal}
use Rattle.format.specs.Recovery.{recover}
use Rattle.format.specs.Writing.{stream_of, stream_length, numbers_refusal, lengths_refusal, call_refusal, planes_refusal, write_refusal, stream_left}
use Rattle.format.proofs.Exact.{tall-of}
use Rattle.writing.proofs.Checked.{call-again}
use Rattle.writing.proofs.SamePlanes.{numbers-same, recover-same}
use Rattle.writing.proofs.SameStream.{stream-same, length-same, lengths-same}
use Rattle.writing.proofs.Theorems.{call-good, numbers-good, lengths-good, sizes, length-of}

module _ (w H : ℕ) (p : Colour → List ℤ) (work : List ℤ) (stream : List ℕ) (f : (i : Colour) (j : ℕ) → SFits w32 (get_or (p i) j (pos 0)))
    (h : write_refusal w H p work stream ≡ 0) (q : Colour → List ℤ)
    (s : (i : Colour) → take (plane_rows_of H * plane_columns w i) (q i) ≡ take (plane_rows_of H * plane_columns w i) (p i)) where
  tall : Tall (guarded H) (stripes H)
  tall = tall-of H (sizes w H p work stream f h).tall

  coefs-same : (m : Group) (i : Colour) (c r x : ℕ) → x < columns w m → recover w H q m i c r x ≡ recover w H p m i c r x
  coefs-same = recover-same w H tall q p s

  pub twice-stream : stream_of w H (recover w H q) ≡ stream_of w H (recover w H p)
  twice-stream = stream-same w H (recover w H q) (recover w H p) coefs-same

  pub twice-length : stream_length w H (recover w H q) ≡ stream_length w H (recover w H p)
  twice-length = length-same w H (recover w H q) (recover w H p) coefs-same

  numbers-again : numbers_refusal (guarded H) (stripes H) w q ≡ 0
  numbers-again = numbers-same (guarded H) (stripes H) w tall q p s ∙ numbers-good w H p work stream f h

  lengths-again : lengths_refusal w H (recover w H q) ≡ 0
  lengths-again = lengths-same w H (recover w H q) (recover w H p) coefs-same ∙ lengths-good w H p work stream f h

  -- a second call, with slices that are long enough
  module _ (work₂ : List ℤ) (stream₂ : List ℕ) (lent : short_refusal w H (length (q green)) (length (q red)) (length (q blue)) (length work₂) ≡ 0)
      (room : stream_length w H (recover w H p) ≤ length stream₂) where
    call : call_refusal w H (length (q green)) (length (q red)) (length (q blue)) (length work₂) ≡ 0
    call = call-again w H _ _ _ _ _ _ _ _ (call-good w H p work stream f h) lent

    pub twice-accepted : write_refusal w H q work₂ stream₂ ≡ 0
    unfolding write_refusal planes_refusal
    twice-accepted =
        let fits = le-ltb (length stream₂) (stream_length w H (recover w H q)) (omega (arith, twice-length)) in
        rw (call, numbers-again, lengths-again, fits)

    pub twice-begins : take (stream_length w H (recover w H p)) (stream_left w H q work₂ stream₂) ≡ stream_of w H (recover w H p)
    unfolding stream_left
    twice-begins =
        rw (eq-eqb (write_refusal w H q work₂ stream₂) 0 twice-accepted, twice-stream)
        (take_at (stream_of w H (recover w H p)) (drop (stream_length w H (recover w H q)) stream₂) _ (length-of w H p work stream f h))
