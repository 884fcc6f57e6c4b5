-- Job 2's promise: what a call that is not refused writes is a stream that is accepted, of that size, no record of which is stopped, and that
-- decodes to exactly the planes that were lent. Assumes nothing.
use Rattle.std.proofs.Common.{◌≡◌, refl, ap, ◌∙◌, List, ◌++◌, Bool, true, false, ℕ, ◌+◌, ◌*◌, ◌^◌, ◌≤◌, ◌<◌, arith, ℤ, pos, nat_abs, length, get_or, take, drop, length-append, take_at, eq-eqb, w16, w32, SFits}
use Rattle.wrap32.specs.Cut.{cut}
use Rattle.wrap32.specs.Arithmetic.{wrapping}
use Rattle.format.specs.Sizes.{Colour, green, red, blue, l1, Group, base, detail, final, stripes, guarded, multiplier, components, columns, plane_columns, plane_rows_of, work_length}
use Rattle.format.specs.Strip.{width, coded_height}
use Rattle.format.specs.Table.{start, height, summed, lifted, picked}
use Rattle.format.specs.Refusals.{short_refusal, refusal}
use Rattle.format.specs.Coefficients.{Coefs, coefs, tile_sum, stopped_of}
use Rattle.format.specs.Counts.{broken_of, spent_of}
use Rattle.format.specs.Used.{bits_of}
use Rattle.format.specs.Synthesis.{planes}
use Rattle.format.specs.Recovery.{recover}
use Rattle.format.specs.Writing.{records, records_bits, stream_bits, stream_length, stream_of, numbers_refusal, lengths_refusal, call_refusal, planes_refusal, write_refusal, stream_left}
use Rattle.format.proofs.TurnLaws.{both-none}
use Rattle.format.proofs.Accepted.{lent-parts}
use Rattle.format.proofs.StatusLaws.{stopped-is-both}
use Rattle.format.proofs.TableLaws.{source_in, chosen-in}
use Rattle.format.proofs.Exact.{Coded, tall-of, SameCoefs, planes-of-coefs}
use Rattle.codes.proofs.Finished.{length-packed}
use Rattle.writing.proofs.Standing.{Stand}
use Rattle.writing.proofs.Packed.{stream-bits, packed-stands}
use Rattle.writing.proofs.StreamBack.{Fits, length-stream, size-width, size-height}
use Rattle.writing.proofs.Decoded.{coefs-back, accepted, none-stopped, all-used}
use Rattle.writing.proofs.Again.{Whole, planes-taken}
use Rattle.writing.proofs.Checked.{Sides, sides, short, groups, steps-fit, edges-whole, small}

module _ (w H : ℕ) (p : Colour → List ℤ) (work : List ℤ) (stream : List ℕ) (f : (i : Colour) (j : ℕ) → SFits w32 (get_or (p i) j (pos 0)))
    (h : write_refusal w H p work stream ≡ 0) where
  abbrev v : Coefs
  v = recover w H p

  pub call-good : call_refusal w H (length (p green)) (length (p red)) (length (p blue)) (length work) ≡ 0
  unfolding write_refusal
  call-good = (both-none (call_refusal w H (length (p green)) (length (p red)) (length (p blue)) (length work)) _ h).0

  planes-good : planes_refusal w H p (length stream) ≡ 0
  unfolding write_refusal
  planes-good = (both-none (call_refusal w H (length (p green)) (length (p red)) (length (p blue)) (length work)) _ h).1

  pub numbers-good : numbers_refusal (guarded H) (stripes H) w p ≡ 0
  unfolding planes_refusal
  numbers-good = (both-none (numbers_refusal (guarded H) (stripes H) w p) _ planes-good).0

  pub lengths-good : lengths_refusal w H v ≡ 0
  unfolding planes_refusal
  lengths-good = (both-none (lengths_refusal w H v) _ (both-none (numbers_refusal (guarded H) (stripes H) w p) _ planes-good).1).0

  pub sizes : Sides w H (length (p green)) (length (p red)) (length (p blue)) (length work) call-good
  sizes = sides w H (length (p green)) (length (p red)) (length (p blue)) (length work) call-good

  fits : Fits w H v
  fits =
      record { narrow = sizes.narrow; whole = sizes.whole; wide = sizes.wide; even = sizes.even; tall = sizes.tall; low = sizes.low; short = short w H v lengths-good; groups = groups w H v lengths-good }

  below : (g : Group) (i : Colour) (c r x : ℕ) → c < components g → r < records H * multiplier g → x < columns w g → nat_abs (v g i c r x) < 2 ^ 19
  below g i c r x _ _ q = small w H p numbers-good g i c r x q

  coded : Coded w H
  coded = record { whole = sizes.whole; tall = sizes.tall }

  -- what the stream slice holds after the call
  abbrev pub left : List ℕ
  left = stream_left w H p work stream

  begins : left ≡ stream_of w H v ++ drop (stream_length w H v) stream
  unfolding stream_left
  begins = rw (eq-eqb (write_refusal w H p work stream) 0 h)

  stands : Stand left 0 (stream_bits w H v)
  unfolding stream_of
  stands = rw begins (packed-stands (stream_bits w H v) (drop (stream_length w H v) stream) (stream-bits w H v) (omega (arith, length-stream w H v fits)))

  pub length-of : length (stream_of w H v) ≡ stream_length w H v
  unfolding stream_of
  length-of = omega (arith, length-packed (stream_bits w H v), length-stream w H v fits)

  long : stream_length w H v ≤ length left
  long = rw begins (omega (arith, length-append (stream_of w H v) (drop (stream_length w H v) stream), length-of))

  -- it begins with the stream of the coefficients
  pub written-begins : take (stream_length w H v) left ≡ stream_of w H v
  written-begins = rw begins (take_at (stream_of w H v) (drop (stream_length w H v) stream) (stream_length w H v) length-of)

  -- accepted, where slices long enough are lent
  pub written-accepted : (green_n red_n blue_n work_n : ℕ) → short_refusal w H green_n red_n blue_n work_n ≡ 0 → refusal left green_n red_n blue_n work_n ≡ 0
  written-accepted green_n red_n blue_n work_n lent = accepted w H v fits left stands long green_n red_n blue_n work_n sizes.large lent

  pub written-width : width left ≡ w
  written-width = size-width w H v fits left stands long

  pub written-height : coded_height left ≡ H
  written-height = size-height w H v fits left stands long

  pub written-sound : stopped_of left ≡ 0
  written-sound = none-stopped w H v fits left stands long below

  -- so none is broken and none spent
  pub written-unbroken : broken_of left ≡ 0
  written-unbroken = omega (arith, written-sound, stopped-is-both left)

  pub written-unspent : spent_of left ≡ 0
  written-unspent = omega (arith, written-sound, stopped-is-both left)

  -- and the bits used are those that were written
  pub written-used : bits_of left ≡ tile_sum (records_bits w H v)
  written-used = all-used w H v fits left stands long below

  -- its coefficients on the rows that go in
  same : SameCoefs w H coded (coefs left) v
  same m i c r x (summed j y q) b =
      ap (cut w16) (coefs-back w H v fits left stands long below base i refl c r x (omega arith) (first (guarded H) (stripes H) y q) b)
    where
      first : (g : Bool) (n y : ℕ) → y < height g n l1 → y + start g < (n + 1) * 1
      first false n y q = omega arith
      first true n y q = omega arith
  same m i c r x (lifted l j k y q) b =
      let e = source_in (guarded H) (stripes H) (tall-of H sizes.tall) l k y q in
      coefs-back w H v fits left stands long below (detail l) i refl c r x e.1 e.0 b
  same m i c r x (picked y q) b =
      coefs-back w H v fits left stands long below final green refl c r x (omega arith) (chosen-in (guarded H) (stripes H) (tall-of H sizes.tall) y q) b

  pub lent-long : (i : Colour) → plane_rows_of H * plane_columns w i ≤ length (p i)
  lent-long i = by i (lent-parts w H (length (p green)) (length (p red)) (length (p blue)) (length work) sizes.lent)
    where
      by : (i : Colour) → (plane_rows_of H * plane_columns w green ≤ length (p green)) × (plane_rows_of H * plane_columns w red ≤ length (p red)) × (plane_rows_of H * plane_columns w blue ≤ length (p blue)) × (work_length w H ≤ length work)
          → plane_rows_of H * plane_columns w i ≤ length (p i)
      by green l = l.0
      by red l = l.1
      by blue l = l.2

  whole : Whole w H coded p f
  whole =
      record { steps = λ i. steps-fit (guarded H) (stripes H) w p numbers-good i; edges = λ i l. edges-whole (guarded H) (stripes H) w p numbers-good l i }

  -- It decodes to exactly these planes
  pub written-planes : (i : Colour) → planes wrapping (width left) (coded_height left) (coefs left) i ≡ take (plane_rows_of H * plane_columns w i) (p i)
  written-planes i =
      rw (written-width, written-height)
      (planes-of-coefs w H coded (coefs left) v same i ∙ planes-taken w H coded p f whole i (lent-long i))
