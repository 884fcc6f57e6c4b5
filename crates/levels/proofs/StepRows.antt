-- Steps of a level whose near rows stand in its block are document 01's, and their ring goes on. Assumes nothing.
use Rattle.std.proofs.Common.{◌≡◌, refl, sym, ap, ◌∙◌, Bool, true, false, cond, List, ◌++◌, ℕ, ◌+◌, ◌-◌, ◌*◌, ◌%◌, ◌≤◌, ◌<◌, arith, ltb, ltb-true, ltb-false, ℤ, length}
use mathlib.Core.Path.{subst₃}
use Rattle.wrap32.specs.Arithmetic.{wrapping}
use Rattle.lists.specs.Lists.{part, rows, put_at, Gone}
use Rattle.lists.proofs.Laid.{laid_same}
use Rattle.lists.proofs.Pairs.{pairs-gone, row-gone}
use Rattle.lists.proofs.Rows.{rows_same, rows-pairs}
use Rattle.lists.proofs.Tab.{length-tab}
use Rattle.format.specs.Lifting.{Plane, Lead, low_leads, high_leads}
use Rattle.format.specs.Sizes.{Level, l1, l2, l3, detail, multiplier, columns}
use Rattle.format.specs.Synthesis.{level}
use Rattle.format.specs.Table.{height, lead, highs, hl, lh, hh}
use Rattle.format.specs.Table as table
use Rattle.lifting.specs.Lift.{lift_row}
use Rattle.passes.specs.declared.Level as code
use Rattle.passes.specs.declared.Plan.{Plan}
use Rattle.passes.specs.Plan.{line, three_rows, unit_of, Sized, Fits}
use Rattle.passes.specs.Level.{InPlace, two_rows, lo_h, hi_h, pair_at, passed_two, pairs_in}
use Rattle.passes.proofs.PlaceLaws.{pair_is}
use Rattle.passes.proofs.Planes.{LowLine, HighLine, pair_line, lead-line, lead-high-line}
use Rattle.levels.specs.Placed.{out_in, out_units, Placed, PlacedBy}
use Rattle.levels.specs.Steps.{leads, steps_in, steps, rows_by, next, out_row, Near}
use Rattle.levels.proofs.Heights.{heights, height-pos, highs-3, next-columns, next-rows}
use Rattle.levels.proofs.InBlock.{out-room, placed-stands}
use Rattle.passes.proofs.TurnLaws.{pairs-length}

abbrev lead_of : Bool → Lead
lead_of true = high_leads
lead_of false = low_leads

lead_is : (g : Bool) (l : Level) → lead_of (leads g l) ≡ lead g l
lead_is false l1 = refl
lead_is false l2 = refl
lead_is false l3 = refl
lead_is true l1 = refl
lead_is true l2 = refl
lead_is true l3 = refl

module _ (g : Bool) (w n s at : ℕ) (z : Sized g w n) (l : Level) (r : code.Level) (f : Placed g w n s at l r) (first from count : ℕ) (ll : Plane) (b : table.Band → Plane) (work : List ℤ) (near : Near g w n s at l first from count ll b work) where
  abbrev cols : ℕ
  cols = columns w (detail l)

  abbrev high : ℕ
  high = highs g l (height g n l)

  -- row y of the outcome, by the band that leads
  abbrev made : Lead → ℕ → List ℤ
  made d = line (2 * cols) (level wrapping d (height g n l) high cols ll b)

  made-out : made (lead_of (leads g l)) ≡ out_row g w n l ll b
  made-out = (λ i y. line (next-columns w z.whole l i) (level wrapping (lead_is g l i) (height g n l) high cols ll b) y)

  low_near : (k : ℕ) → first ≤ k → from ≤ k + 1 → k ≤ from + count → k < r.h → LowLine r high work ll b k
  low_near k a c d e =
      let x : k < height g n l = rw f.rows at e in
      rw f.cols
      (ap (λ (a : ℕ). part work a cols) (f.lls k x) ∙ near.lls k a d x, ap (λ (a : ℕ). part work a cols) (f.hls k x) ∙ near.bands hl k c d x)

  high-near : (k : ℕ) → from ≤ k + 1 → k ≤ from + count → k < high → HighLine r high work ll b k
  high-near k c d e =
      rw f.cols
      (ap (λ (a : ℕ). part work a cols) (f.lhs k e) ∙ near.bands lh k c d e, ap (λ (a : ℕ). part work a cols) (f.hhs k e) ∙ near.bands hh k c d e)

  by_size : (d : Lead) (y : ℕ) → line (2 * r.c) (level wrapping d r.h high r.c ll b) y ≡ made d y
  by_size d y = (λ i. line (2 * f.cols i) (level wrapping d (f.rows i) high (f.cols i) ll b) y)

  most : r.h ≤ high
  most = omega (arith, f.rows, (heights g n z.tall l).0)

  -- the low band leading
  pub low-pair : first ≤ from → (y : ℕ) → from ≤ y → y < from + count → y < r.h → two_rows r work y ≡ made low_leads (2 * y) ++ made low_leads (2 * y + 1)
  unfolding level
  low-pair a y u v t =
      pair_line r high work ll b y t most
      (λ k c d e. low_near k (omega (arith, a, u, c)) (omega (arith, u, c)) (omega (arith, v, d)) e)
      (λ k c d e. high-near k (omega (arith, u, c)) (omega (arith, v, d)) e)
      ∙ (λ i. by_size low_leads (2 * y) i ++ by_size low_leads (2 * y + 1) i)

  -- either band leading
  module _ (back : first ≤ from - 1) where
    pair_made : (d : Bool) (y : ℕ) → from ≤ y → y < from + count → y < r.h → passed_two d r high work y ≡ made (lead_of d) (2 * y) ++ made (lead_of d) (2 * y + 1)
    unfolding level
    pair_made false y u v t = low-pair (omega (arith, back)) y u v t
    pair_made true y u v t =
        lead-line r high work ll b (omega (arith, t)) most y t
        (λ k c d e. low_near k (omega (arith, back, u, c)) (omega (arith, u, c)) (omega (arith, v, d)) e)
        (λ k c d e. high-near k (omega (arith, u, c)) (omega (arith, v, d)) e)
        ∙ (λ i. by_size high_leads (2 * y) i ++ by_size high_leads (2 * y + 1) i)

    last_made : from ≤ r.h → r.h < from + count → r.h < high → lift_row r.c (lo_h r high work r.h) (hi_h r high work r.h) ≡ made high_leads (2 * r.h)
    unfolding level
    last_made u v t =
        lead-high-line r high work ll b (omega (arith, f.rows, height-pos g n z.tall l)) most r.h t (omega arith)
        (λ k c d e. low_near k (omega (arith, back, u, c)) (omega (arith, u, c)) (omega (arith, v, d)) e)
        (λ k c d e. high-near k (omega (arith, u, c)) (omega (arith, v, d)) e)
        ∙ by_size high_leads (2 * r.h)

    module _ (out pairs : ℕ) (some : 1 ≤ pairs) (room : out + pairs * (4 * cols) ≤ length work) where
      each : (d : Lead) (y : ℕ) → length (made d y) ≡ 2 * cols
      each d y = length-tab (2 * cols) _

      long : (d : Bool) (k : ℕ) → length (pairs_in d r high out pairs work from k) ≡ length work
      long d k = pairs-length d r high out pairs work from some (rw f.cols room) k

      pairs_made : (d : Bool) (k : ℕ) → k ≤ count → from + k ≤ r.h → Gone out (2 * cols) (2 * pairs) (made (lead_of d)) from (2 * (from + k)) work (pairs_in d r high out pairs work from k)
      pairs_made d k a h =
          pairs-gone out cols pairs (made (lead_of d)) (each (lead_of d)) some work room from k _
          (laid_same (λ j. pair_at out pairs r.c (from + j)) (λ j. out + (from + j) % pairs * (4 * cols)) (λ j. passed_two d r high work (from + j)) (λ j. made (lead_of d) (2 * (from + j)) ++ made (lead_of d) (2 * (from + j) + 1)) work k
          (λ j _. pair_is out pairs r.c (from + j) ∙ ap (λ (c : ℕ). out + (from + j) % pairs * (4 * c)) f.cols)
          (λ j c. pair_made d (from + j) (omega arith) (omega (arith, c, a)) (omega (arith, c, h))))

      -- `count` steps, where t says whether they end with the row after the last pair
      abbrev ended : Bool → Bool → List ℤ
      ended d t =
          cond t
          (put_at (pairs_in d r high out pairs work from (r.h - from)) (pair_at out pairs r.c r.h) (lift_row r.c (lo_h r high work r.h) (hi_h r high work r.h)))
          (pairs_in d r high out pairs work from count)

      -- the steps end with a pair, or with the row after the last one
      steps-made : (d : Bool) → (d ≡ false → high ≡ height g n l) → from < high → from + count ≤ high → (t : Bool) → ltb r.h (from + count) ≡ t
          → Gone out (2 * cols) (2 * pairs) (made (lead_of d)) from (rows_by g n l (from + count)) work (ended d t)
      steps-made d e o a false t =
          let b = ltb-false r.h (from + count) t in
          let k : rows_by g n l (from + count) ≡ 2 * (from + count) = omega (arith, b, f.rows, (heights g n z.tall l).0) in
          rw k (pairs_made d count (omega arith) b)
      steps-made false e o a true t = absurd (omega (arith, e refl, a, f.rows, ltb-true r.h (from + count) t))
      steps-made true e o a true t =
          let b = ltb-true r.h (from + count) t in
          let m = (heights g n z.tall l).1 in
          let u : from ≤ r.h = omega (arith, o, m, f.rows) in
          let k : rows_by g n l (from + count) ≡ 2 * r.h + 1 = omega (arith, a, b, m, f.rows) in
          let j : from + (r.h - from) ≡ r.h = omega (arith, u) in
          let place = pair_is out pairs r.c r.h ∙ ap (λ (c : ℕ). out + r.h % pairs * (4 * c)) f.cols in
          rw k
          (row-gone out cols pairs (made high_leads) (each high_leads) some work room from r.h (pairs_in true r high out pairs work from (r.h - from)) _
          (long true (r.h - from))
          (rw j at (pairs_made true (r.h - from) (omega (arith, b, j)) (omega (arith, j))))
          (λ i. put_at (pairs_in true r high out pairs work from (r.h - from)) (place i) (last_made u b (omega (arith, a, b)) i)))

      pub steps-gone : 2 * pairs ≡ s * multiplier (next l) → from < high → from + count ≤ high → (after : List ℤ) → after ≡ steps_in (leads g l) r high out pairs work from count
          → Gone out (columns w (next l)) (s * multiplier (next l)) (out_row g w n l ll b) from (rows_by g n l (from + count)) work after
      steps-gone e o a after q =
          subst₃ (λ (x y : ℕ) (h : ℕ → List ℤ). Gone out x y h from (rows_by g n l (from + count)) work after) (next-columns w z.whole l) e made-out
          (rw q (steps-made (leads g l) (heights g n z.tall l).2 o a (ltb r.h (from + count)) refl))

-- ---- what a level asks of its caller, and gives it
module _ (plan : Plan) (at : ℕ) (fits : Fits plan at) (l : Level) (r : code.Level) (f : PlacedBy plan at l r) where
  abbrev g : Bool
  g = plan.guarded

  abbrev w : ℕ
  w = plan.w

  abbrev n : ℕ
  n = plan.n

  abbrev s : ℕ
  s = plan.slots

  module _ (m : ℕ) (e : m ≡ steps g n l) (out pairs : ℕ) (p : pairs ≡ s * multiplier (detail l)) (from count : ℕ) (a : from < steps g n l) (b : from + count ≤ steps g n l) (size : ℕ) (room : out + out_units l * unit_of plan ≤ size) where
    some_pairs : (l : Level) → pairs ≡ s * multiplier (detail l) → 1 ≤ pairs
    some_pairs l1 p = omega (arith, p, fits.1.some)
    some_pairs l2 p = omega (arith, p, fits.1.some)
    some_pairs l3 p = omega (arith, p, fits.1.some)

    ring-room : out + pairs * (4 * columns w (detail l)) ≤ size
    ring-room = rw p (omega (arith, out-room w s fits.0.whole l out, room))

    pub level-asks : (ring : ℕ) → out_in w s at l ≤ out → ring ≡ three_rows (columns w (detail l))
        → (1 ≤ r.h) × (from < m) × (from + count ≤ m) × (m ≤ r.h + 1) × (leads g l ≡ false → m ≡ r.h) × InPlace r m out pairs size ring
    level-asks ring o q =
        let t = heights g n fits.0.tall l in
        let h = f.rows in (
          omega (arith, h, height-pos g n fits.0.tall l),
          omega (arith, e, a),
          omega (arith, e, b),
          omega (arith, e, h, t.1),
          (λ d. e ∙ t.2 d ∙ sym h),
          record {
            three = q ∙ ap three_rows (sym f.cols);
            room = rw f.cols ring-room;
            some = some_pairs l p;
            stands = rw e (placed-stands g w n s at fits.0 fits.1 l r f out o);
          },
        )

    pub level-gives : (ll : Plane) (d : table.Band → Plane) (work after : List ℤ) → length work ≡ size → Near g w n s at l (from - 1) from count ll d work
        → after ≡ steps_in (leads g l) r m out pairs work from count
        → Gone out (columns w (next l)) (s * multiplier (next l)) (out_row g w n l ll d) from (rows_by g n l (from + count)) work after
    level-gives ll d work after long near q =
        steps-gone g w n s at fits.0 l r f (from - 1) from count ll d work near (omega arith) out pairs (some_pairs l p) (omega (arith, long, ring-room))
        (ap (λ (x : ℕ). 2 * x) p ∙ next-rows s l) a b after
        (q ∙ ap (λ (x : ℕ). steps_in (leads g l) r x out pairs work from count) e)

-- rows 2 (from + k) and 2 (from + k) + 1 of level 3
abbrev pair : Bool → ℕ → ℕ → Plane → (table.Band → Plane) → ℕ → ℕ → List ℤ
pair g w n ll b from k = out_row g w n l3 ll b (2 * from + 2 * k) ++ out_row g w n l3 ll b (2 * from + (2 * k + 1))

out-pair : (g : Bool) (w n s at : ℕ) (z : Sized g w n) (r : code.Level) (f : Placed g w n s at l3 r) (from count : ℕ) (ll : Plane) (b : table.Band → Plane) (work : List ℤ) (near : Near g w n s at l3 from from count ll b work) (k : ℕ)
    → made g w n s at z l3 r f from from count ll b work near low_leads (2 * (from + k)) ++ made g w n s at z l3 r f from from count ll b work near low_leads (2 * (from + k) + 1) ≡ pair g w n ll b from k
out-pair g w n s at z r f from count ll b work near k =
    let x : 2 * (from + k) ≡ 2 * from + 2 * k = omega arith in
    let y : 2 * (from + k) + 1 ≡ 2 * from + (2 * k + 1) = omega arith in
    let e = made-out g w n s at z l3 r f from from count ll b work near in
    (λ i. e i (x i) ++ e i (y i))

-- level 3 into a plane, from ll's row `from` on
pub plane-gives : (g : Bool) (w n s at : ℕ) (z : Sized g w n) (r : code.Level) (f : Placed g w n s at l3 r) (from count : ℕ) (ll : Plane) (b : table.Band → Plane) (work : List ℤ)
    → Near g w n s at l3 from from count ll b work → from + count ≤ steps g n l3
    → rows count (λ k. two_rows r work (from + k)) ≡ rows (2 * count) (λ k. out_row g w n l3 ll b (2 * from + k))
plane-gives g w n s at z r f from count ll b work near a =
    rows_same count (λ k. two_rows r work (from + k)) (pair g w n ll b from)
    (λ k c. low-pair g w n s at z l3 r f from from count ll b work near (omega arith) (from + k) (omega arith) (omega (arith, c)) (omega (arith, c, a, f.rows, highs-3 g n)) ∙ out-pair g w n s at z r f from count ll b work near k)
    ∙ sym (rows-pairs count (λ k. out_row g w n l3 ll b (2 * from + k)) (pair g w n ll b from) (λ y. refl))
