-- The round trip, in terms of both functions' contracts: what `write_stream` accepts, `decode_stream` accepts with slices that are long enough,
-- and gives exactly these planes, no record stopped; and `write_stream` gives the same bytes of these again. Assumes nothing.
use Rattle.std.proofs.Common.{◌≡◌, refl, sym, ap, ◌∙◌, List, ◌++◌, ℕ, ◌*◌, ◌≤◌, arith, ℤ, pos, length, get_or, take, drop, length-append, length-take, take_at, le-ltb, w32, SFits}
use Rattle.format.specs.Sizes.{Colour, green, red, blue, plane_rows_of, plane_columns, work_length}
use Rattle.format.specs.Refusals.{short_refusal, refusal}
use Rattle.format.specs.Coefficients.{tile_sum}
use Rattle.format.specs.Tile.{Answer, answer_of, plane_after, slice}
use Rattle.format.specs.Recovery.{recover}
use Rattle.format.specs.Writing.{Written, records_bits, stream_length, written_of, write_refusal}
use Rattle.tile.specs.Decode.{TileOutcome}
use Rattle.writing.proofs.Theorems.{left, written-accepted, written-width, written-height, written-sound, written-unbroken, written-unspent, written-used, written-planes, written-begins, lent-long}
use Rattle.writing.proofs.Twice.{twice-length, twice-accepted, twice-begins}
use Rattle.writer.specs.Write.{WriteOutcome}

-- a call of `write_stream` that was accepted, with planes of 32-bit numbers
module _ (w H : ℕ) (greens reds blues work : List ℤ) (stream : List ℕ) (r : Written) (work' : List ℤ) (stream' : List ℕ)
    (fits : (i : Colour) (j : ℕ) → SFits w32 (get_or (slice greens reds blues i) j (pos 0))) (wrote : WriteOutcome w H (slice greens reds blues) work stream r work' stream') (none : r.refusal ≡ 0) where
  abbrev p : Colour → List ℤ
  p = slice greens reds blues

  good : write_refusal w H p work stream ≡ 0
  unfolding written_of
  good = sym (ap (λ (a : Written). a.refusal) wrote.answer) ∙ none

  abbrev s : List ℕ
  s = left w H p work stream fits good

  -- and a call of `decode_stream` on that stream, with slices that are long enough
  module _ (g c b k : List ℤ) (d : Answer) (g' c' b' k' : List ℤ) (enough : short_refusal w H (length g) (length c) (length b) (length k) ≡ 0) (decoded : TileOutcome stream' g c b k d g' c' b' k') where
    admitted : refusal s (length g) (length c) (length b) (length k) ≡ 0
    admitted = written-accepted w H p work stream fits good (length g) (length c) (length b) (length k) enough

    -- the answer
    pub written-answers : d ≡ record { refusal = 0; width = w; height = H; rows = plane_rows_of H; stopped = 0; broken = 0; spent = 0; bits = tile_sum (records_bits w H (recover w H p)) }
    unfolding answer_of
    written-answers =
        let wide = written-width w H p work stream fits good in
        let tall = written-height w H p work stream fits good in
        let sound = written-sound w H p work stream fits good in
        let unbroken = written-unbroken w H p work stream fits good in
        let unspent = written-unspent w H p work stream fits good in
        let used = written-used w H p work stream fits good in
        decoded.answer ∙ ap (λ (t : List ℕ). answer_of t (refusal t (length g) (length c) (length b) (length k))) wrote.streams
        ∙ rw (admitted, wide, tall, sound, unbroken, unspent, used) refl

    -- a plane after it: what was written, and the rest as it was
    abbrev After : Colour → List ℤ → List ℤ → Type 0
    After i old new = new ≡ plane_after stream' (refusal stream' (length g) (length c) (length b) (length k)) i old

    after : (i : Colour) (old new : List ℤ) → After i old new
        → new ≡ take (plane_rows_of H * plane_columns w i) (p i) ++ drop (length (take (plane_rows_of H * plane_columns w i) (p i))) old
    unfolding plane_after
    after i old new e =
        e ∙ ap (λ (x : List ℕ). plane_after x (refusal x (length g) (length c) (length b) (length k)) i old) wrote.streams
        ∙ rw (admitted, written-planes w H p work stream fits good i) refl

    taken : (i : Colour) → length (take (plane_rows_of H * plane_columns w i) (p i)) ≡ plane_rows_of H * plane_columns w i
    taken i = length-take (plane_rows_of H * plane_columns w i) (p i) ∙ omega (arith, lent-long w H p work stream fits good i)

    plane : (i : Colour) (old new : List ℤ) → After i old new
        → take (plane_rows_of H * plane_columns w i) new ≡ take (plane_rows_of H * plane_columns w i) (p i)
    plane i old new e =
        let n = plane_rows_of H * plane_columns w i in
        ap (take n) (after i old new e) ∙ take_at (take n (p i)) _ n (taken i)

    plane-long : (i : Colour) (old new : List ℤ) → After i old new → plane_rows_of H * plane_columns w i ≤ length new
    plane-long i old new e =
        let t = take (plane_rows_of H * plane_columns w i) (p i) in
        omega (arith, ap length (after i old new e), length-append t (drop (length t) old), taken i)

    pub written-decodes : (i : Colour) → take (plane_rows_of H * plane_columns w i) (slice g' c' b' i) ≡ take (plane_rows_of H * plane_columns w i) (p i)
    written-decodes green = plane green g g' decoded.greens
    written-decodes red = plane red c c' decoded.reds
    written-decodes blue = plane blue b b' decoded.blues

    -- and another call of `write_stream`, on the planes that `decode_stream` left, with slices that are long enough
    module _ (work₂ : List ℤ) (stream₂ : List ℕ) (r₂ : Written) (work₂' : List ℤ) (stream₂' : List ℕ) (works : work_length w H ≤ length work₂) (room : r.length ≤ length stream₂)
        (wrote₂ : WriteOutcome w H (slice g' c' b') work₂ stream₂ r₂ work₂' stream₂') where
      abbrev n : ℕ
      n = stream_length w H (recover w H p)

      lent : short_refusal w H (length g') (length c') (length b') (length work₂) ≡ 0
      unfolding short_refusal
      lent =
          let a = le-ltb (length g') (plane_rows_of H * plane_columns w green) (plane-long green g g' decoded.greens) in
          let d = le-ltb (length c') (plane_rows_of H * plane_columns w red) (plane-long red c c' decoded.reds) in
          let e = le-ltb (length b') (plane_rows_of H * plane_columns w blue) (plane-long blue b b' decoded.blues) in
          rw (a, d, e, le-ltb (length work₂) (work_length w H) works)

      is : r ≡ record { refusal = 0; length = n }
      unfolding written_of
      is = wrote.answer ∙ rw good refl

      room-is : n ≤ length stream₂
      room-is = omega (arith, room, ap (λ (a : Written). a.length) is)

      good₂ : write_refusal w H (slice g' c' b') work₂ stream₂ ≡ 0
      good₂ = twice-accepted w H p work stream fits good (slice g' c' b') written-decodes work₂ stream₂ lent room-is

      -- the answer is the same
      pub written-again : r₂ ≡ r
      unfolding written_of
      written-again = wrote₂.answer ∙ rw (good₂, twice-length w H p work stream fits good (slice g' c' b') written-decodes) (sym is)

      -- and so are the bytes
      pub written_same : take r.length stream₂' ≡ take r.length stream'
      written_same =
          rw is
          (ap (take n) wrote₂.streams ∙ twice-begins w H p work stream fits good (slice g' c' b') written-decodes work₂ stream₂ lent room-is
          ∙ sym (ap (take n) wrote.streams ∙ written-begins w H p work stream fits good))
