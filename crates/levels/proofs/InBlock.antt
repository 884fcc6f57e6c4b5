-- The rows of a level lie in its block. Assumes nothing.
use Rattle.std.proofs.Common.{◌≡◌, Bool, ℕ, suc, ◌+◌, ◌*◌, ◌/◌, ◌%◌, ◌^◌, ◌≤◌, ◌<◌, mul-le-mul_right, mod-lt, arith}
use Rattle.format.specs.Sizes.{Level, l1, l2, l3, detail, multiplier, columns}
use Rattle.format.specs.Table.{start, height, highs, hl, lh, hh, source, band_rows, from_component, from_row}
use Rattle.format.specs.Table as table
use Rattle.format.proofs.TableLaws.{source_in as source-in}
use Rattle.passes.specs.declared.Level as code
use Rattle.passes.specs.Plan.{Sized, Slots}
use Rattle.passes.specs.Level.{Lows, Highs, Stands}
use Rattle.passes.proofs.PlaceLaws.{place_is}
use Rattle.levels.specs.Placed.{packet_in, row_in, ll_in, source_in, out_in, out_units, Placed}
use Rattle.levels.proofs.Heights.{row_count, few-rows}

module _ (w s at : ℕ) (z : w % 16 ≡ 0) (some : 1 ≤ s) where
  row-in-slots : (l : Level) (c r : ℕ) → c < 3 → row_in w s (at + packet_in s (w / 16) (detail l)) (detail l) c r + columns w (detail l) ≤ out_in w s at l1
  row-in-slots l1 c r a =
      let x = r % (s * 1) in
      let b : x < s * 1 = mod-lt r (omega (arith, some)) in
      let e = place_is (at + s * (w / 16)) 1 3 (w / 16) c x in
      let t : suc ((x / 1 * 3 + c) * 1 + x % 1) ≤ s * 3 = omega (arith, a, b) in
      let m = mul-le-mul_right (w / 16) t in
      omega (arith, e, m)
  row-in-slots l2 c r a =
      let x = r % (s * 2) in
      let b : x < s * 2 = mod-lt r (omega (arith, some)) in
      let e = place_is (at + packet_in s (w / 16) (detail l2)) 2 3 (w / 8) c x in
      let t : suc ((x / 2 * 3 + c) * 2 + x % 2) ≤ s * 6 = omega (arith, a, b) in
      let d : w / 8 ≡ 2 * (w / 16) = omega (arith, z) in
      let m : suc ((x / 2 * 3 + c) * 2 + x % 2) * (w / 8) ≤ (s * 6) * (2 * (w / 16)) = rw (← d) (mul-le-mul_right (w / 8) t) in
      omega (arith, e, m)
  row-in-slots l3 c r a =
      let x = r % (s * 4) in
      let b : x < s * 4 = mod-lt r (omega (arith, some)) in
      let e = place_is (at + packet_in s (w / 16) (detail l3)) 4 3 (w / 4) c x in
      let t : suc ((x / 4 * 3 + c) * 4 + x % 4) ≤ s * 12 = omega (arith, a, b) in
      let d : w / 4 ≡ 4 * (w / 16) = omega (arith, z) in
      let m : suc ((x / 4 * 3 + c) * 4 + x % 4) * (w / 4) ≤ (s * 12) * (4 * (w / 16)) = rw (← d) (mul-le-mul_right (w / 4) t) in
      omega (arith, e, m)

  ll-in-slots : (g : Bool) (l : Level) (y : ℕ) → ll_in g w s at l y + columns w (detail l) ≤ out_in w s at l
  ll-in-slots g l1 y =
      let m = mul-le-mul_right (w / 16) (mod-lt (y + start g) some) in
      omega (arith, m)
  ll-in-slots g l2 y =
      let b : y % (s * 2) < s * 2 = mod-lt y (omega (arith, some)) in
      let d : w / 8 ≡ 2 * (w / 16) = omega (arith, z) in
      let m : suc (y % (s * 2)) * (w / 8) ≤ (s * 2) * (2 * (w / 16)) = rw (← d) (mul-le-mul_right (w / 8) b) in
      omega (arith, m)
  ll-in-slots g l3 y =
      let b : y % (s * 4) < s * 4 = mod-lt y (omega (arith, some)) in
      let d : w / 4 ≡ 4 * (w / 16) = omega (arith, z) in
      let m : suc (y % (s * 4)) * (w / 4) ≤ (s * 4) * (4 * (w / 16)) = rw (← d) (mul-le-mul_right (w / 4) b) in
      omega (arith, m)

  out-least : (l : Level) → out_in w s at l1 ≤ out_in w s at l
  out-least l1 = omega arith
  out-least l2 = omega arith
  out-least l3 = omega arith

module _ (g : Bool) (w n s at : ℕ) (z : Sized g w n) (k : Slots w s at) (l : Level) (r : code.Level) (f : Placed g w n s at l r) (out : ℕ) (o : out_in w s at l ≤ out) where
  band-in : (b : table.Band) (a y : ℕ) → a ≡ source_in g w n s at l b y → y < band_rows (height g n l) (highs g l (height g n l)) b → a + columns w (detail l) ≤ out
  band-in b a y e p =
      let i = source-in g n z.tall l b y p in
      omega (arith, e, row-in-slots w s at z.whole k.some l (from_component (source g l (height g n l) b y)) (from_row (source g l (height g n l) b y)) i.1, out-least w s at z.whole k.some l, o)

  placed-lows : Lows r out
  placed-lows y p =
      let q : y < height g n l = rw f.rows at p in
      let c : y < 2 ^ 40 = omega (arith, q, (few-rows g n l z.few).0) in
      rw f.cols ((omega (arith, f.lls y q, ll-in-slots w s at z.whole k.some g l y, o), row_count r.ll y f.shorts.ll c), (band-in hl _ y (f.hls y q) q, row_count r.hl y f.shorts.hl c))

  placed-highs : Highs r (highs g l (height g n l)) out
  placed-highs y p =
      let c : y < 2 ^ 40 = omega (arith, p, (few-rows g n l z.few).1) in
      rw f.cols ((band-in lh _ y (f.lhs y p) p, row_count r.lh y f.shorts.lh c), (band-in hh _ y (f.hhs y p) p, row_count r.hh y f.shorts.hh c))

  pub placed-stands : Stands r (highs g l (height g n l)) out
  placed-stands = record { lows = placed-lows; highs = placed-highs; placeable = f.placeable }

pub out-room : (w s : ℕ) → w % 16 ≡ 0 → (l : Level) (out : ℕ) → out + s * multiplier (detail l) * (4 * columns w (detail l)) ≡ out + out_units l * (s * (w / 16))
out-room w s z l1 out = omega arith
out-room w s z l2 out = let d : w / 8 ≡ 2 * (w / 16) = omega (arith, z) in rw d (omega arith)
out-room w s z l3 out = let d : w / 4 ≡ 4 * (w / 16) = omega (arith, z) in rw d (omega arith)
