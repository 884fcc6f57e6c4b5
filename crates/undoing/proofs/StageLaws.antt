-- A level on its way: what stands in the rows after one more is split, one more high undone, one more low. Assumes nothing.
use Rattle.std.proofs.Common.{◌≡◌, refl, sym, ap, ◌∙◌, List, ◌⊎◌, inl, inr, ℕ, ◌+◌, ◌-◌, ◌*◌, ◌≤◌, ◌<◌, arith, ℤ, length}
use Rattle.lists.specs.Lists.{Apart, part, put_at}
use Rattle.lists.proofs.Tab.{length-put}
use Rattle.lists.proofs.Part.{part-put-in, part-put-out}
use Rattle.format.specs.Lifting.{Lead, low_leads, high_leads, Shape}
use Rattle.format.proofs.BitLaws.{le-or-lt}
use Rattle.undoing.specs.Undo.{split_row}
use Rattle.undoing.specs.declared.Level.{Level}
use Rattle.undoing.specs.Down.{lead_of, low_at, high_at, highs_done, Placed, place, row_place, low_place, high_place, rows_in, highs_down, lows_down, lows_back, split_at, Ready, Staged}
use Rattle.undoing.proofs.UndoLaws.{length-split}
use Rattle.undoing.proofs.RowLaws.{row_apart}
use Rattle.undoing.proofs.DownLaws.{as_many, low-in, high-in, low-high, high-once, low-once, LowNear, HighNear, length-highs, length-lows, highs-down-near, lows-down-back}

-- one row put in: that row, the others, and all else
module _ (g : Level) (w v ys : List ℤ) (r : ℕ) (z : Placed g (length w)) (b : r < g.h + g.m) (long : length ys ≡ 2 * g.c) (e : v ≡ put_at w (row_place g r) ys) where
  room : row_place g r + length ys ≤ length w
  room = omega (arith, long, z.within r b)

  put-own : rows_in g v r ≡ ys
  put-own = ap (λ (l : List ℤ). part l (row_place g r) (2 * g.c)) e ∙ ap (λ (n : ℕ). part (put_at w (row_place g r) ys) (row_place g r) n) (sym long) ∙ part-put-in w (row_place g r) ys room

  put-beside : (a n : ℕ) → Apart a n (row_place g r) (2 * g.c) → part v a n ≡ part w a n
  put-beside a n p = ap (λ (l : List ℤ). part l a n) e ∙ part-put-out w (row_place g r) ys room a n (2 * g.c) long p

  put_other : (q : ℕ) → (q ≡ r → ⊥) → rows_in g v q ≡ rows_in g w q
  put_other q ne = put-beside (row_place g q) (2 * g.c) (row_apart g.to.start g.to.step (2 * g.c) q r z.behind ne)

  put-long : length v ≡ length w
  put-long = ap length e ∙ length-put w (row_place g r) ys room

module _ (g : Level) (l : List ℤ) (ready : Ready g (length l)) where
  abbrev d : Lead
  d = lead_of g.leads

  abbrev rows : ℕ → List ℤ
  rows = split_at g l

  module _ (k a b : ℕ) (w v : List ℤ) (t : Staged g l k a b w) where
    placed : Placed g (length w)
    placed = rw t.long ready.placed

    -- row k is split
    module _ (h : k < g.h + g.m) (ha : (q : ℕ) → q < a → high_at d q < k) (hb : (q : ℕ) → q < b → low_at d q < k)
        (e : v ≡ put_at w (row_place g k) (split_at g w k)) where
      split-long : length (split_at g w k) ≡ 2 * g.c
      split-long = length-split g.c (part w (place g.from k) (2 * g.c))

      own : rows_in g v k ≡ rows k
      own = put-own g w v (split_at g w k) k placed h split-long e
          ∙ ap (split_row g.c) (t.beside (place g.from k) (2 * g.c) (λ r x. ready.apart k r h x))

      other : (q : ℕ) → (q ≡ k → ⊥) → rows_in g v q ≡ rows_in g w q
      other = put_other g w v (split_at g w k) k placed h split-long e

      -- row q is as it was, or the new one
      split-row : (q : ℕ) → q < k + 1 → (q < k → rows_in g w q ≡ rows q) → rows_in g v q ≡ rows q
      split-row q b f = by (le-or-lt k q)
        where
          by : (k ≤ q) ⊎ (q < k) → rows_in g v q ≡ rows q
          by (inl x) = let i : q ≡ k = omega arith in rw i own
          by (inr x) = other q (λ i. omega arith) ∙ f x

      pub staged-split : Staged g l (k + 1) a b v
      staged-split = record {
        highs = λ q x. other (high_at d q) (λ i. omega (arith, ha q x, i)) ∙ t.highs q x;
        lows = λ q x. other (low_at d q) (λ i. omega (arith, hb q x, i)) ∙ t.lows q x;
        split-highs = λ q x y. split-row (high_at d q) y (t.split-highs q x);
        split-lows = λ q x y. split-row (low_at d q) y (t.split-lows q x);
        beside = λ a n f. put-beside g w v (split_at g w k) k placed h split-long e a n (f k h) ∙ t.beside a n f;
        long = put-long g w v (split_at g w k) k placed h split-long e ∙ t.long;
      }

    -- high a is undone
    module _ (ha : a < g.m) (hk : high_at d a < k) (near : (q : ℕ) → q < g.h → LowNear d a q → (b ≤ q) × (low_at d q < k))
        (e : v ≡ put_at w (high_place g a) (highs_down d g.h (2 * g.c) (rows_in g w) a)) where
      abbrev high : List ℤ
      high = highs_down d g.h (2 * g.c) (rows_in g w) a

      high-long : length high ≡ 2 * g.c
      high-long = length-highs d g.h (2 * g.c) (rows_in g w) a

      in-high : high_at d a < g.h + g.m
      in-high = high-in g.h g.m d ready.placed.shape a ha

      own-high : rows_in g v (high_at d a) ≡ highs_down d g.h (2 * g.c) rows a
      own-high =
          put-own g w v high (high_at d a) placed in-high high-long e
          ∙ highs-down-near d g.h g.m (2 * g.c) ready.placed.shape (rows_in g w) rows a ha (t.split-highs a (omega arith) hk)
          (λ q x y. t.split-lows q (near q x y).0 (near q x y).1)

      other-high : (q : ℕ) → (q ≡ high_at d a → ⊥) → rows_in g v q ≡ rows_in g w q
      other-high = put_other g w v high (high_at d a) placed in-high high-long e

      high-row : (q : ℕ) → q < a + 1 → rows_in g v (high_at d q) ≡ highs_down d g.h (2 * g.c) rows q
      high-row q b = by (le-or-lt a q)
        where
          by : (a ≤ q) ⊎ (q < a) → rows_in g v (high_at d q) ≡ highs_down d g.h (2 * g.c) rows q
          by (inl x) = let i : q ≡ a = omega arith in rw i own-high
          by (inr x) = other-high (high_at d q) (λ i. omega (arith, high-once d q a i)) ∙ t.highs q x

      pub staged-high : Staged g l k (a + 1) b v
      staged-high = record {
        highs = high-row;
        lows = λ q x. other-high (low_at d q) (low-high d q a) ∙ t.lows q x;
        split-highs = λ q x y. other-high (high_at d q) (λ i. omega (arith, high-once d q a i, x)) ∙ t.split-highs q (omega (arith, x)) y;
        split-lows = λ q x y. other-high (low_at d q) (low-high d q a) ∙ t.split-lows q x y;
        beside = λ i n f. put-beside g w v high (high_at d a) placed in-high high-long e i n (f (high_at d a) in-high) ∙ t.beside i n f;
        long = put-long g w v high (high_at d a) placed in-high high-long e ∙ t.long;
      }

    -- low b is undone
    module _ (hb : b < g.h) (hk : low_at d b < k) (near : (q : ℕ) → q < g.m → HighNear d b q → q < a)
        (e : v ≡ put_at w (low_place g b) (lows_down d g.m (2 * g.c) (rows_in g w) b)) where
      abbrev low : List ℤ
      low = lows_down d g.m (2 * g.c) (rows_in g w) b

      low-long : length low ≡ 2 * g.c
      low-long = length-lows d g.m (2 * g.c) (rows_in g w) b

      in-low : low_at d b < g.h + g.m
      in-low = low-in g.h g.m d ready.placed.shape b hb

      own-low : rows_in g v (low_at d b) ≡ lows_back d g.h g.m (2 * g.c) rows b
      own-low =
          put-own g w v low (low_at d b) placed in-low low-long e
          ∙ lows-down-back d g.h g.m (2 * g.c) ready.placed.shape (rows_in g w) rows b hb (t.split-lows b (omega arith) hk)
          (λ q x y. t.highs q (near q x y))

      other-low : (q : ℕ) → (q ≡ low_at d b → ⊥) → rows_in g v q ≡ rows_in g w q
      other-low = put_other g w v low (low_at d b) placed in-low low-long e

      low-row : (q : ℕ) → q < b + 1 → rows_in g v (low_at d q) ≡ lows_back d g.h g.m (2 * g.c) rows q
      low-row q z = by (le-or-lt b q)
        where
          by : (b ≤ q) ⊎ (q < b) → rows_in g v (low_at d q) ≡ lows_back d g.h g.m (2 * g.c) rows q
          by (inl x) = let i : q ≡ b = omega arith in rw i own-low
          by (inr x) = other-low (low_at d q) (λ i. omega (arith, low-once d q b i)) ∙ t.lows q x

      pub staged-low : Staged g l k a (b + 1) v
      staged-low = record {
        highs = λ q x. other-low (high_at d q) (λ i. low-high d b q (sym i)) ∙ t.highs q x;
        lows = low-row;
        split-highs = λ q x y. other-low (high_at d q) (λ i. low-high d b q (sym i)) ∙ t.split-highs q x y;
        split-lows = λ q x y. other-low (low_at d q) (λ i. omega (arith, low-once d q b i, x)) ∙ t.split-lows q (omega (arith, x)) y;
        beside = λ i n f. put-beside g w v low (low_at d b) placed in-low low-long e i n (f (low_at d b) in-low) ∙ t.beside i n f;
        long = put-long g w v low (low_at d b) placed in-low low-long e ∙ t.long;
      }

-- ---- the steps of a level
high-below : (d : Lead) (q y : ℕ) → q < y → high_at d q < 2 * y
high-below low_leads q y h = omega arith
high-below high_leads q y h = omega arith

low_below : (d : Lead) (q y : ℕ) → q < y → low_at d q < 2 * y
low_below low_leads q y h = omega arith
low_below high_leads q y h = omega arith

-- high a, the next one once pair y is split: it is there, it is split, and so are the lows beside it, which are not undone
next-in : (d : Lead) (h m y a : ℕ) → Shape d h m → y < h → highs_done d y ≡ a → highs_done d (y + 1) ≡ a + 1 → (a < m) × (high_at d a < 2 * y + 2)
next-in low_leads h m y a e b p q = (omega arith, omega arith)
next-in high_leads h m y a e b p q = (omega (arith, (as_many h m e).0), omega arith)

next-near : (d : Lead) (y a k : ℕ) → highs_done d y ≡ a → highs_done d (y + 1) ≡ a + 1 → LowNear d a k → (y - 1 ≤ k) × (low_at d k < 2 * y + 2)
next-near low_leads y a k p q n = (omega arith, omega arith)
next-near high_leads y a k p q n = (omega arith, omega arith)

-- the highs beside low y - 1 are undone then
low-near : (d : Lead) (y k : ℕ) → 0 < y → HighNear d (y - 1) k → k < highs_done d (y + 1)
low-near low_leads y k b n = omega arith
low-near high_leads y k b n = omega arith

module _ (g : Level) (l : List ℤ) (ready : Ready g (length l)) where
  -- the same stage by other words
  pub staged-as : {k k2 a a2 b b2 : ℕ} {w : List ℤ} → k ≡ k2 → a ≡ a2 → b ≡ b2 → Staged g l k a b w → Staged g l k2 a2 b2 w
  staged-as p q r t = rw (p, q, r) at t

  -- two rows are split
  pub staged-pair : (y a b : ℕ) (w v u : List ℤ) → 2 * y + 1 < g.h + g.m → a ≤ y → b ≤ y → Staged g l (2 * y) a b w
      → v ≡ put_at w (row_place g (2 * y)) (split_at g w (2 * y)) → u ≡ put_at v (row_place g (2 * y + 1)) (split_at g v (2 * y + 1)) → Staged g l (2 * y + 2) a b u
  staged-pair y a b w v u h ha hb t e f =
      let d = lead_of g.leads in
      let n : 2 * y + 1 + 1 ≡ 2 * y + 2 = omega arith in
      let one = staged-split g l ready (2 * y) a b w v t (omega arith) (λ q x. high-below d q y (omega (arith, x))) (λ q x. low_below d q y (omega (arith, x))) e in
      rw n at
      (staged-split g l ready (2 * y + 1) a b v u one (omega arith) (λ q x. omega (arith, high-below d q y (omega (arith, x)))) (λ q x. omega (arith, low_below d q y (omega (arith, x)))) f)

  -- the next high is undone, and low y - 1
  pub staged-next-high : (y a : ℕ) (w v : List ℤ) → y < g.h → highs_done (lead_of g.leads) y ≡ a → highs_done (lead_of g.leads) (y + 1) ≡ a + 1
      → Staged g l (2 * y + 2) (highs_done (lead_of g.leads) y) (y - 1) w → v ≡ put_at w (high_place g a) (highs_down (lead_of g.leads) g.h (2 * g.c) (rows_in g w) a)
      → Staged g l (2 * y + 2) (highs_done (lead_of g.leads) (y + 1)) (y - 1) v
  staged-next-high y a w v h p q t e =
      let d = lead_of g.leads in
      let z = next-in d g.h g.m y a ready.placed.shape h p q in
      staged-as refl (sym q) refl
      (staged-high g l ready (2 * y + 2) a (y - 1) w v (staged-as refl p refl t) z.0 z.1 (λ k _ n. next-near d y a k p q n) e)

  pub staged-next-low : (y : ℕ) (w v : List ℤ) → y < g.h → 0 < y → Staged g l (2 * y + 2) (highs_done (lead_of g.leads) (y + 1)) (y - 1) w
      → v ≡ put_at w (low_place g (y - 1)) (lows_down (lead_of g.leads) g.m (2 * g.c) (rows_in g w) (y - 1)) → Staged g l (2 * y + 2) (highs_done (lead_of g.leads) (y + 1)) y v
  staged-next-low y w v h b t e =
      let d = lead_of g.leads in
      let n : y - 1 + 1 ≡ y = omega arith in
      staged-as refl refl n
      (staged-low g l ready (2 * y + 2) (highs_done d (y + 1)) (y - 1) w v t (omega arith) (omega (arith, low_below d (y - 1) y (omega arith))) (λ k _ n. low-near d y k b n) e)

  -- the last high, which is split first where there is one more; the last low
  pub staged-last : (w v : List ℤ) → lead_of g.leads ≡ low_leads → Staged g l (2 * g.h) (highs_done (lead_of g.leads) g.h) (g.h - 1) w
      → v ≡ put_at w (high_place g (g.h - 1)) (highs_down (lead_of g.leads) g.h (2 * g.c) (rows_in g w) (g.h - 1)) → Staged g l (g.h + g.m) g.m (g.h - 1) v
  staged-last w v led t e =
      let some = ready.placed.some in
      let same : g.m ≡ g.h = rw led at ready.placed.shape in
      let done : highs_done (lead_of g.leads) g.h ≡ g.h - 1 = ap (λ (d : Lead). highs_done d g.h) led in
      staged-as (omega arith) (omega arith) refl
      (staged-high g l ready (2 * g.h) (g.h - 1) (g.h - 1) w v (staged-as refl done refl t) (omega arith) (high-below (lead_of g.leads) (g.h - 1) g.h (omega arith))
      (λ q x n. ((rw led at n).0, low_below (lead_of g.leads) q g.h x)) e)

  pub staged-one-more : (w v u : List ℤ) → lead_of g.leads ≡ high_leads → g.h < g.m → Staged g l (2 * g.h) (highs_done (lead_of g.leads) g.h) (g.h - 1) w
      → v ≡ put_at w (row_place g (2 * g.h)) (split_at g w (2 * g.h)) → u ≡ put_at v (high_place g g.h) (highs_down (lead_of g.leads) g.h (2 * g.c) (rows_in g v) g.h)
      → Staged g l (g.h + g.m) g.m (g.h - 1) u
  staged-one-more w v u led h t e f =
      let d = lead_of g.leads in
      let many = (as_many g.h g.m (rw led at ready.placed.shape)).1 in
      let done : highs_done d g.h ≡ g.h = ap (λ (d : Lead). highs_done d g.h) led in
      let one = staged-split g l ready (2 * g.h) g.h (g.h - 1) w v (staged-as refl done refl t) (omega arith) (λ q x. high-below d q g.h x) (λ q x. low_below d q g.h (omega (arith, x))) e in
      let last : high_at d g.h < 2 * g.h + 1 = rw led (omega arith) in
      staged-as (omega arith) (omega arith) refl
      (staged-high g l ready (2 * g.h + 1) g.h (g.h - 1) v u one h last (λ q x n. (omega (arith, (rw led at n).0), omega (arith, low_below d q g.h x))) f)

  pub staged-last-low : (w v : List ℤ) → Staged g l (g.h + g.m) g.m (g.h - 1) w
      → v ≡ put_at w (low_place g (g.h - 1)) (lows_down (lead_of g.leads) g.m (2 * g.c) (rows_in g w) (g.h - 1)) → Staged g l (g.h + g.m) g.m g.h v
  staged-last-low w v t e =
      let some = ready.placed.some in
      staged-as refl refl (omega arith)
      (staged-low g l ready (g.h + g.m) g.m (g.h - 1) w v t (omega arith) (low-in g.h g.m (lead_of g.leads) ready.placed.shape (g.h - 1) (omega arith)) (λ q x n. x) e)
