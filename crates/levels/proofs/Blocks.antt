-- A block that holds all records of an index: its levels, one after the other. Assumes nothing.
use Rattle.std.proofs.Common.{◌≡◌, ap, ◌∙◌, Bool, true, false, List, inl, inr, ℕ, ◌+◌, ◌*◌, ◌/◌, ◌%◌, ◌≤◌, ◌<◌, zero-add, arith, ℤ}
use Rattle.wrap32.specs.Arithmetic.{wrapping}
use Rattle.lists.specs.Lists.{Apart, part, rows, Rung, Gone}
use Rattle.lists.proofs.Rings.{rung-kept}
use Rattle.lists.proofs.Rows.{rows_same}
use Rattle.format.specs.Coefficients.{Coefs}
use Rattle.format.specs.Lifting.{Plane}
use Rattle.format.specs.Sizes.{Colour, Level, l1, l2, l3, Group, base, detail, final, multiplier, columns, plane_rows, Tall}
use Rattle.format.specs.Synthesis.{bands, ll1, ll2, ll3, outcome, flat}
use Rattle.format.specs.Table.{start, height, highs, source, band_rows, from_component, from_row}
use Rattle.format.specs.Table as table
use Rattle.format.proofs.Exact.{rows-after, after-most}
use Rattle.format.proofs.TableLaws.{source_in as source-in}
use Rattle.passes.specs.declared.Plan.{Plan}
use Rattle.passes.specs.Plan.{line, unit_of, ll2_units, ll_units, final_units, Fits}
use Rattle.levels.specs.Placed.{ll_in, source_in, out_in, out_units}
use Rattle.levels.specs.Steps.{steps, rows_after, rows_by, next, out_row, Near, Makes}
use Rattle.levels.specs.Block.{stood, record_size, record_lines, Stood, group_at, Records, Seconds, Lowered, Outcomes}
use Rattle.levels.proofs.Heights.{heights, highs-3}
use Rattle.levels.proofs.Stood.{stood-row, source-line, sums-line}

-- a group's ring of records ends in the first 64 units of its block
pub group-room : (z : Plan) (at : ℕ) → z.w % 16 ≡ 0 → (m : Group) → group_at z at m + z.slots * record_size z.w m ≤ at + ll2_units * unit_of z
group-room z at k base = omega arith
group-room z at k (detail l1) = omega arith
group-room z at k (detail l2) = let d : z.w / 8 ≡ 2 * (z.w / 16) = omega (arith, k) in rw d (omega arith)
group-room z at k (detail l3) = let d : z.w / 4 ≡ 4 * (z.w / 16) = omega (arith, k) in rw d (omega arith)
group-room z at k final = let d : z.w / 2 ≡ 8 * (z.w / 16) = omega (arith, k) in rw d (omega arith)

-- the ring of a level's outcome
out-size : (z : Plan) → z.w % 16 ≡ 0 → (l : Level) → z.slots * multiplier (next l) * columns z.w (next l) ≡ out_units l * unit_of z
out-size z k l1 = let d : z.w / 8 ≡ 2 * (z.w / 16) = omega (arith, k) in rw d (omega arith)
out-size z k l2 = let d : z.w / 4 ≡ 4 * (z.w / 16) = omega (arith, k) in rw d (omega arith)
out-size z k l3 = let d : z.w / 2 ≡ 8 * (z.w / 16) = omega (arith, k) in rw d (omega arith)

-- a record of group 0 is one row
pub base-line : (w : ℕ) (p : ℕ → Plane) (t : ℕ) → record_lines w base p t ≡ line (w / 16) (p 0) t
unfolding rows
base-line w p t = let e : t * 1 + 0 ≡ t = omega arith in ap (line (w / 16) (p 0)) e

-- the rows of level 1's ll are records of group 0
start-below : (g : Bool) (n y : ℕ) → y < height g n l1 → y + start g < n + 1
start-below false n y t = omega arith
start-below true n y t = omega arith

-- a whole level fits its ring
whole-fits : (g : Bool) (n s : ℕ) → Tall g n → n < s → (l : Level) → (rows_by g n l (0 + steps g n l) ≡ rows_after g n l) × (rows_after g n l ≤ s * multiplier (next l))
whole-fits g n s t h l1 = let k = rows-after g n l1 t in let m = after-most g n l1 in let e = heights g n t l1 in (omega (arith, e.0, e.1), omega (arith, k, m))
whole-fits g n s t h l2 = let k = rows-after g n l2 t in let m = after-most g n l2 in let e = heights g n t l2 in (omega (arith, e.0, e.1), omega (arith, k, m))
whole-fits g n s t h l3 = let k = rows-after g n l3 t in let m = after-most g n l3 in let e = heights g n t l3 in (omega (arith, e.0, e.1), omega (arith, k, m))

module _ (z : Plan) (at : ℕ) (fits : Fits z at) (v : Coefs) (i : Colour) where
  abbrev g : Bool
  g = z.guarded

  -- ---- what a range of a level's steps reads
  -- the records that its bands' rows are of are records lo to hi
  abbrev Live : Level → ℕ → ℕ → ℕ → ℕ → Type 0
  Live l lo hi from count =
      (b : table.Band) (y : ℕ) → from ≤ y + 1 → y ≤ from + count → y < band_rows (height g z.n l) (highs g l (height g z.n l)) b
      → (lo ≤ from_row (source g l (height g z.n l) b y) / multiplier (detail l)) × (from_row (source g l (height g z.n l) b y) / multiplier (detail l) < hi)

  -- its bands' rows, where their records stand
  pub near-bands : (l : Level) (lo hi from count : ℕ) (work : List ℤ) → Stood z v (detail l) i (group_at z at (detail l)) lo hi work
      → Live l lo hi from count
      → (b : table.Band) (y : ℕ) → from ≤ y + 1 → y ≤ from + count → y < band_rows (height g z.n l) (highs g l (height g z.n l)) b
      → part work (source_in g z.w z.n z.slots at l b y) (columns z.w (detail l)) ≡ line (columns z.w (detail l)) (bands wrapping g l (height g z.n l) i (v (detail l) i) b) y
  near-bands l lo hi from count work r live b y p q t =
      let o = source g l (height g z.n l) b y in
      let h = live b y p q t in
      stood-row z.w z.slots (group_at z at (detail l)) (detail l) fits.1.some (stood g z.n v (detail l) i) work (from_component o) (from_row o) (source-in g z.n fits.0.tall l b y t).1 (r (from_row o / multiplier (detail l)) h.0 h.1)
      ∙ source-line g z.n fits.0.tall l i v b y (columns z.w (detail l)) t

  -- level 1's ll, where group 0's records stand
  pub near-sums : (lo hi : ℕ) (work : List ℤ) → Stood z v base i (group_at z at base) lo hi work → (y : ℕ) → lo ≤ y + start g → y + start g < hi
      → part work (ll_in g z.w z.slots at l1 y) (z.w / 16) ≡ line (z.w / 16) (ll1 wrapping g z.n z.w i v) y
  near-sums lo hi work r y a b =
      let size : z.w / 16 ≡ 1 * 1 * (z.w / 16) = omega arith in
      let k = (y + start g) % z.slots in
      let place : at + k * (z.w / 16) ≡ at + 0 + k * (1 * 1 * (z.w / 16)) = omega arith in
      (λ j. part work (place j) (size j))
      ∙ r (y + start g) a b
      ∙ base-line z.w (stood g z.n v base i) (y + start g)
      ∙ sums-line g z.n z.w i v y (z.w / 16)

  -- ---- all records
  module _ (all : z.n < z.slots) where
    whole-bands : (l : Level) (from count : ℕ) (work : List ℤ) → Stood z v (detail l) i (group_at z at (detail l)) 0 (z.n + 1) work
        → (b : table.Band) (y : ℕ) → from ≤ y + 1 → y ≤ from + count → y < band_rows (height g z.n l) (highs g l (height g z.n l)) b
        → part work (source_in g z.w z.n z.slots at l b y) (columns z.w (detail l)) ≡ line (columns z.w (detail l)) (bands wrapping g l (height g z.n l) i (v (detail l) i) b) y
    whole-bands l from count work r =
        near-bands l 0 (z.n + 1) from count work r (λ b y _ _ t. (omega arith, record-in l b y t))
      where
        record-in : (l : Level) (b : table.Band) (y : ℕ) → y < band_rows (height g z.n l) (highs g l (height g z.n l)) b → from_row (source g l (height g z.n l) b y) / multiplier (detail l) < z.n + 1
        record-in l1 b y t = let k = (source-in g z.n fits.0.tall l1 b y t).0 in omega (arith, k)
        record-in l2 b y t = let k = (source-in g z.n fits.0.tall l2 b y t).0 in omega (arith, k)
        record-in l3 b y t = let k = (source-in g z.n fits.0.tall l3 b y t).0 in omega (arith, k)

    -- all steps of a level make its outcome whole
    made-whole : (l : Level) (out : ℕ) (ll : Plane) (b : table.Band → Plane) (work after : List ℤ)
        → Gone out (columns z.w (next l)) (z.slots * multiplier (next l)) (out_row g z.w z.n l ll b) 0 (rows_by g z.n l (0 + steps g z.n l)) work after
        → Rung out (columns z.w (next l)) (z.slots * multiplier (next l)) (out_row g z.w z.n l ll b) 0 (rows_after g z.n l) after
    made-whole l out ll b work after h =
        let k = whole-fits g z.n z.slots fits.0.tall all l in
        rw k.0 at (h.stand 0 0 (omega arith) (omega (arith, k.0, k.1)) (λ r _ c. absurd (omega (arith, c))))

    -- records stay where nothing below 64 units has changed
    stood-kept : (m : Group) (work after : List ℤ) → ((s k : ℕ) → s + k ≤ at + ll2_units * unit_of z → part after s k ≡ part work s k) → Stood z v m i (group_at z at m) 0 (z.n + 1) work → Stood z v m i (group_at z at m) 0 (z.n + 1) after
    stood-kept m work after e =
        rung-kept (group_at z at m) (record_size z.w m) z.slots (record_lines z.w m (stood g z.n v m i)) 0 (z.n + 1) work after fits.1.some
        (λ s k _ b. e s k (omega (arith, b, group-room z at fits.0.whole m)))

    module _ (work a b : List ℤ) (r : Records z v i at 0 (z.n + 1) work) (one : Makes z at l1 (out_in z.w z.slots at l1) 0 (steps g z.n l1) work a) (two : Makes z at l2 (out_in z.w z.slots at l2) 0 (steps g z.n l2) a b) where
      first-gone : Gone (out_in z.w z.slots at l1) (z.w / 8) (z.slots * 2) (line (z.w / 8) (ll2 wrapping g z.n z.w i v)) 0 (rows_by g z.n l1 (0 + steps g z.n l1)) work a
      unfolding ll2
      first-gone =
          one (ll1 wrapping g z.n z.w i v) (bands wrapping g l1 (height g z.n l1) i (v (detail l1) i)) (record {
            lls = λ y _ _ t. near-sums 0 (z.n + 1) work r.bases y (omega arith) (start-below g z.n y t);
            bands = whole-bands l1 0 (steps g z.n l1) work (r.details l1);
          })

      seconds : Seconds z v i at 0 (height g z.n l2) a
      unfolding ll2
      seconds =
          rw (rows-after g z.n l1 fits.0.tall) at
          (made-whole l1 (out_in z.w z.slots at l1) (ll1 wrapping g z.n z.w i v) (bands wrapping g l1 (height g z.n l1) i (v (detail l1) i)) work a first-gone)

      first-beside : (s m : ℕ) → Apart s m (out_in z.w z.slots at l1) (out_units l1 * unit_of z) → part a s m ≡ part work s m
      first-beside s m o = first-gone.beside s m (rw (out-size z fits.0.whole l1) o)

      second-gone : Gone (out_in z.w z.slots at l2) (z.w / 4) (z.slots * 4) (line (z.w / 4) (ll3 wrapping g z.n z.w i v)) 0 (rows_by g z.n l2 (0 + steps g z.n l2)) a b
      unfolding ll3
      second-gone =
          two (ll2 wrapping g z.n z.w i v) (bands wrapping g l2 (height g z.n l2) i (v (detail l2) i)) (record {
            lls = λ y _ _ t. seconds y (omega arith) t;
            bands = whole-bands l2 0 (steps g z.n l2) a (stood-kept (detail l2) work a (λ s k h. first-beside s k (inl h)) (r.details l2));
          })

      second-beside : (s m : ℕ) → Apart s m (out_in z.w z.slots at l2) (out_units l2 * unit_of z) → part b s m ≡ part a s m
      second-beside s m o = second-gone.beside s m (rw (out-size z fits.0.whole l2) o)

      both-beside : (s m : ℕ) → Apart s m (out_in z.w z.slots at l1) (ll_units * unit_of z) → part b s m ≡ part work s m
      both-beside s m (inl h) = second-beside s m (inl (omega (arith, h))) ∙ first-beside s m (inl h)
      both-beside s m (inr h) = second-beside s m (inr (omega (arith, h))) ∙ first-beside s m (inr (omega (arith, h)))

      pub lowered : Lowered z v i at work b
      unfolding ll3
      lowered = record {
        thirds =
            rw (rows-after g z.n l2 fits.0.tall) at
            (made-whole l2 (out_in z.w z.slots at l2) (ll2 wrapping g z.n z.w i v) (bands wrapping g l2 (height g z.n l2) i (v (detail l2) i)) a b second-gone);
        beside = both-beside;
      }

    -- level 3 from there
    module _ (work b : List ℤ) (r : Records z v i at 0 (z.n + 1) work) (low : Lowered z v i at work b) where
      pub near-third : (first : ℕ) → Near g z.w z.n z.slots at l3 first 0 (steps g z.n l3) (ll3 wrapping g z.n z.w i v) (bands wrapping g l3 (height g z.n l3) i (v (detail l3) i)) b
      near-third first = record {
        lls = λ y _ _ t. low.thirds y (omega arith) t;
        bands = whole-bands l3 0 (steps g z.n l3) b (stood-kept (detail l3) work b (λ s k h. low.beside s k (inl h)) (r.details l3));
      }

      -- into a plane
      pub plane-whole : (plane : List ℤ) → ((ll : Plane) (d : table.Band → Plane) → Near g z.w z.n z.slots at l3 0 0 (steps g z.n l3) ll d b → plane ≡ rows (2 * steps g z.n l3) (λ k. out_row g z.w z.n l3 ll d (2 * 0 + k)))
          → plane ≡ flat (plane_rows g z.n) (z.w / 2) (outcome wrapping g z.n z.w i v)
      unfolding outcome
      plane-whole plane h =
          let e : 2 * steps g z.n l3 ≡ plane_rows g z.n = omega (arith, rows-after g z.n l3 fits.0.tall, highs-3 g z.n) in
          h (ll3 wrapping g z.n z.w i v) (bands wrapping g l3 (height g z.n l3) i (v (detail l3) i)) (near-third 0)
          ∙ rows_same (2 * steps g z.n l3) _ (line (z.w / 2) (outcome wrapping g z.n z.w i v)) (λ k _. ap (line (z.w / 2) (outcome wrapping g z.n z.w i v)) (zero-add k))
          ∙ ap (λ (k : ℕ). flat k (z.w / 2) (outcome wrapping g z.n z.w i v)) e

      -- into a ring behind the block
      module _ (out : ℕ) (after : List ℤ) (three : Makes z at l3 out 0 (steps g z.n l3) b after) where
        third-gone : Gone out (z.w / 2) (z.slots * 8) (line (z.w / 2) (outcome wrapping g z.n z.w i v)) 0 (rows_by g z.n l3 (0 + steps g z.n l3)) b after
        unfolding outcome
        third-gone = three (ll3 wrapping g z.n z.w i v) (bands wrapping g l3 (height g z.n l3) i (v (detail l3) i)) (near-third 0)

        pub outcomes-whole : Outcomes z v i out 0 (plane_rows g z.n) after
        unfolding outcome
        outcomes-whole =
            rw (rows-after g z.n l3 fits.0.tall) at
            (made-whole l3 out (ll3 wrapping g z.n z.w i v) (bands wrapping g l3 (height g z.n l3) i (v (detail l3) i)) b after third-gone)

        pub outcomes-beside : (s m : ℕ) → Apart s m (out_in z.w z.slots at l1) (ll_units * unit_of z) → Apart s m out (final_units * unit_of z) → part after s m ≡ part work s m
        outcomes-beside s m o p = third-gone.beside s m (rw (out-size z fits.0.whole l3) p) ∙ low.beside s m o
