-- The lent slices: their sizes, and what each is after the call. Assumes nothing.
use Rattle.std.proofs.Common.{◌≡◌, sym, ap, ◌∙◌, Bool, List, ◌++◌, ℕ, ◌+◌, ◌*◌, ◌/◌, ◌≤◌, Ok, mul-le-mul_right, arith, ℤ, pos, drop}
use lib.ListN.{length-replicate}
use Rattle.format.specs.Sizes.{Colour, green, red, stripes, guarded, plane_rows, plane_rows_of, plane_columns, work_length}
use Rattle.format.specs.Strip.{width, coded_height}
use Rattle.format.specs.Coefficients.{zeros, coefs}
use Rattle.format.specs.Accepted.{Accepted}
use Rattle.format.proofs.Exact.{Coded, planes-least}
use Rattle.format.proofs.Theorems.{length-planes}
use Rattle.passes.specs.declared.Plan.{Plan}
use Rattle.passes.specs.Plan.{unit_of, work_units, Sized, Fits}
use Rattle.passes.proofs.SizedLaws.{sized_of, work-units}
use Rattle.format.specs.Tile as tile
use Rattle.format.specs.Tile.{lengths_of}
use Rattle.packets.specs.declared.Lengths.{Lengths}
use Rattle.packets.specs.Answers.{told as needs}
use Rattle.packets.proofs.LengthLaws.{needed_is}
use Rattle.tile.specs.Packets.{Measured}
use Rattle.tile.specs.Going.{decoded_plane}
use Rattle.tile.specs.Decode.{onto}

-- three rows of lo and hi at level 3 fit in green's plane
pub ring-room : (g : Bool) (w n : ℕ) → Sized g w n → 6 * (w / 4) ≤ plane_rows g n * w
ring-room g w n s = let m : 8 * w ≤ plane_rows g n * w = mul-le-mul_right w (planes-least g n s.tall) in omega arith

-- ---- the lent slices

-- an accepted stream, its coded size w by h, and what is reckoned from that, with lent slices so long
pub record Lent (s : List ℕ) (green_n red_n blue_n work_n w h n : ℕ) (g : Bool) (full half all : ℕ) : Type 0 where
  pub ok : Accepted s green_n red_n blue_n work_n
  pub wide : w ≡ width s
  pub tall : h ≡ coded_height s
  pub many : n ≡ stripes h
  pub guard : g ≡ guarded h
  pub full_is : full ≡ plane_rows_of (coded_height s) * plane_columns (width s) green
  pub half_is : half ≡ plane_rows_of (coded_height s) * plane_columns (width s) red
  pub work_is : all ≡ work_length (width s) (coded_height s)

-- by what the check says that the stream needs
module _ (s : List ℕ) (need : Lengths) (is : needs (Ok need) ≡ lengths_of s) where
  pub enough : {green_n red_n blue_n work_n : ℕ} → Accepted s green_n red_n blue_n work_n → (need.green ≤ green_n) × (need.red ≤ red_n) × (need.blue ≤ blue_n) × (need.work ≤ work_n)
  enough ok =
      let e = needed_is s need is in (
        omega (arith, ap (λ (x : tile.Lengths). x.green) e, ok.greens),
        omega (arith, ap (λ (x : tile.Lengths). x.red) e, ok.reds),
        omega (arith, ap (λ (x : tile.Lengths). x.blue) e, ok.blues),
        omega (arith, ap (λ (x : tile.Lengths). x.work) e, ok.works),
      )

  pub blue-as-red : need.blue ≡ need.red
  blue-as-red = ap (λ (x : tile.Lengths). x.blue) (needed_is s need is) ∙ sym (ap (λ (x : tile.Lengths). x.red) (needed_is s need is))

  pub lent_of : {green_n red_n blue_n work_n : ℕ} → Accepted s green_n red_n blue_n work_n → (n : ℕ) (g : Bool) → n ≡ stripes need.size.height → g ≡ guarded need.size.height
      → Lent s green_n red_n blue_n work_n need.size.width need.size.height n g need.green need.red need.work
  lent_of ok n g many guard =
      let e = needed_is s need is in record {
        ok = ok;
        wide = ap (λ (x : tile.Lengths). x.width) e;
        tall = ap (λ (x : tile.Lengths). x.height) e;
        many = many;
        guard = guard;
        full_is = ap (λ (x : tile.Lengths). x.green) e;
        half_is = ap (λ (x : tile.Lengths). x.red) e;
        work_is = ap (λ (x : tile.Lengths). x.work) e;
      }

module _ {s : List ℕ} {green_n red_n blue_n work_n w h n : ℕ} {g : Bool} {full half all : ℕ} (l : Lent s green_n red_n blue_n work_n w h n g full half all) where
  -- the plan of the tile, with as many slots as records
  abbrev pub plan : Plan
  plan = record { w = w; n = n; guarded = g; slots = n + 1 }

  pub measured : Measured s plan
  measured = record { wide = l.wide; tall = l.many ∙ ap stripes l.tall; guard = l.guard ∙ ap guarded l.tall }

  pub fitted : Fits plan 0
  fitted =
      let few : n + 1 ≤ 2049 = omega (arith, l.many, l.tall, l.ok.good.low) in
      let m = mul-le-mul_right (w / 16) few in
      let coded : Coded (width s) (coded_height s) = record { whole = l.ok.good.whole; tall = l.ok.good.tall } in (
        rw (measured.wide, measured.tall, measured.guard) (sized_of (width s) (coded_height s) coded l.ok.good.wide (omega (arith, l.ok.good.low))),
        record { some = omega arith; few = omega (arith, few); small = omega (arith, m, l.wide, l.ok.good.narrow) },
      )

  -- the slices by the plan
  pub full-rows : full ≡ plane_rows g n * w
  full-rows = l.full_is ∙ (λ j. plane_rows (sym measured.guard j) (sym measured.tall j) * sym l.wide j)

  pub half-rows : half ≡ plane_rows g n * (w / 2)
  half-rows = l.half_is ∙ (λ j. plane_rows (sym measured.guard j) (sym measured.tall j) * (sym l.wide j / 2))

  pub work-in-units : all ≡ work_units * unit_of plan
  work-in-units =
      let a = sym l.wide in
      let b = sym measured.tall in
      l.work_is ∙ work-units (width s) (coded_height s) l.ok.good.whole ∙ (λ j. work_units * ((b j + 1) * (a j / 16)))

  -- what each slice is after the call: the part that was lent, and the rest
  module _ (i : Colour) (old given : List ℤ) (size : ℕ) where
    pub plane-onto : given ≡ decoded_plane s i → size ≡ plane_rows_of (coded_height s) * plane_columns (width s) i → given ++ drop size old ≡ onto (decoded_plane s i) old
    plane-onto e f = (λ j. e j ++ drop (f j) old) ∙ ap (λ (k : ℕ). decoded_plane s i ++ drop k old) (sym (length-planes (width s) (coded_height s) (coefs s) i))

  pub work-onto : (old given : List ℤ) (size : ℕ) → given ≡ zeros size → size ≡ work_length (width s) (coded_height s) → given ++ drop size old ≡ onto (zeros (work_length (width s) (coded_height s))) old
  work-onto old given size e f =
      (λ j. e j ++ drop size old) ∙ (λ j. zeros (f j) ++ drop (f j) old)
      ∙ ap (λ (k : ℕ). zeros (work_length (width s) (coded_height s)) ++ drop k old) (sym (length-replicate (work_length (width s) (coded_height s)) (pos 0)))
