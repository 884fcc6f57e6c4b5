-- A level undone in its rows is `ll_of` and `band_of` of the plane that stood there. Assumes nothing.
use Rattle.std.proofs.Common.{◌≡◌, refl, sym, ap, ◌∙◌, List, ◌++◌, inl, inr, ⊎_elim, ℕ, ◌+◌, ◌-◌, ◌*◌, ◌≤◌, ◌<◌, mul-le-mul_left, mul-le-mul_right, arith, ℤ, pos, length, get_or-append-add}
use Rattle.std.proofs.Math.ListN.{get_or-append}
use Rattle.lists.specs.Lists.{Apart, part, tab}
use Rattle.lists.proofs.Tab.{length-tab, get_or-tab, tab-same, get_d_part, part-tab}
use Rattle.format.specs.Lifting.{Signal, Plane, Lead, low_leads, high_leads, highs_of, lows_of, Shape}
use Rattle.format.specs.Recovery.{lo_of, hi_of, ll_of, band_of}
use Rattle.format.proofs.LiftingLaws.{highs-same, lows-same}
use Rattle.lifting.specs.Lift.{at}
use Rattle.undoing.specs.Undo.{split_row}
use Rattle.undoing.specs.declared.Level.{Level}
use Rattle.undoing.specs.Down.{Within, RowsApart, place, lead_of, low_at, high_at, highs_down, lows_back, split_at, Ready, Staged, Undone, LevelUndone}
use Rattle.undoing.proofs.DownLaws.{low-in, high-in}

-- ---- a row of 2 c split: its first half and its second
module _ (c : ℕ) (out : Signal) (x : ℕ) (b : x < c) where
  reads : (k : ℕ) → k < c + c → at (tab (2 * c) out) k ≡ out k
  reads k h = get_or-tab (2 * c) out k (pos 0) (omega arith)

  pub split-low : at (split_row c (tab (2 * c) out)) x ≡ lows_of low_leads c c out x
  split-low =
      let f = lows_of low_leads c c (at (tab (2 * c) out)) in
      let n = length-tab c f in
      get_or-append (tab c f) (tab c (highs_of low_leads c (at (tab (2 * c) out)))) (pos 0) x (omega arith)
      ∙ get_or-tab c f x (pos 0) b
      ∙ lows-same c c low_leads (at (tab (2 * c) out)) out refl reads x b

  pub split-high : at (split_row c (tab (2 * c) out)) (c + x) ≡ highs_of low_leads c out x
  split-high =
      let f = lows_of low_leads c c (at (tab (2 * c) out)) in
      let g = highs_of low_leads c (at (tab (2 * c) out)) in
      ap (λ (k : ℕ). at (tab c f ++ tab c g) (k + x)) (sym (length-tab c f))
      ∙ get_or-append-add (tab c f) (tab c g) x (pos 0)
      ∙ get_or-tab c g x (pos 0) b
      ∙ highs-same c c low_leads (at (tab (2 * c) out)) out refl reads x b

-- the two halves of what stands in a row
module _ (w : List ℤ) (a c : ℕ) (R : List ℤ) (f : ℕ → ℤ) (room : a + 2 * c ≤ length w) (e : part w a (2 * c) ≡ R) where
  half-front : ((x : ℕ) → x < c → at R x ≡ f x) → part w a c ≡ tab c f
  half-front h =
      part-tab w a c (pos 0) (omega arith)
      ∙ tab-same c _ _ (λ k b. sym (get_d_part w a (2 * c) k (pos 0) (omega arith)) ∙ ap (λ (l : List ℤ). at l k) e ∙ h k b)

  half_back : ((x : ℕ) → x < c → at R (c + x) ≡ f x) → part w (a + c) c ≡ tab c f
  half_back h =
      part-tab w (a + c) c (pos 0) (omega arith)
      ∙ tab-same c _ _ λ k b.
      let n : a + c + k ≡ a + (c + k) = omega arith in
      ap (at w) n ∙ sym (get_d_part w a (2 * c) (c + k) (pos 0) (omega arith)) ∙ ap (λ (l : List ℤ). at l (c + k)) e ∙ h k b

-- ---- one column, down, from what it holds in the rows that are split
module _ (d : Lead) (h m n : ℕ) (e : Shape d h m) (f : ℕ → List ℤ) (x : ℕ) (b : x < n) (col : Signal) (s : (r : ℕ) → r < h + m → at (f r) x ≡ col r) where
  high-col : (y : ℕ) → y < m → at (highs_down d h n f y) x ≡ highs_of d h col y
  unfolding highs_down
  high-col y k = get_or-tab n _ x (pos 0) b ∙ highs-same h m d (λ r. at (f r) x) col e s y k

  low-col : (y : ℕ) → y < h → at (lows_back d h m n f y) x ≡ lows_of d h m col y
  unfolding lows_back
  low-col y k = get_or-tab n _ x (pos 0) b ∙ lows-same h m d (λ r. at (f r) x) col e s y k

-- ---- the level
pub level-ready : {size : ℕ} (g : Level)
    → Within g.from.start g.from.step (2 * g.c) (g.h + g.m) size × Within g.to.start g.to.step (2 * g.c) (g.h + g.m) size × RowsApart g.from.start g.from.step g.to.start g.to.step (2 * g.c) (g.h + g.m)
    → (1 ≤ g.c) × (2 * g.c ≤ g.to.step) × (1 ≤ g.h) × Shape (lead_of g.leads) g.h g.m → Ready g size
level-ready g (from, to, apart) (wide, behind, some, shape) =
    let k : (g.h + g.m - 1) * 1 ≤ (g.h + g.m - 1) * g.to.step = mul-le-mul_left (g.h + g.m - 1) (omega arith) in record {
      placed = record { within = to; behind = behind; shape = shape; some = some; few = omega (arith, to (g.h + g.m - 1) (omega arith), k) };
      within = from;
      apart = apart;
    }

module _ (g : Level) (l w : List ℤ) (ready : Ready g (length l)) (staged : Staged g l (g.h + g.m) g.m g.h w) where
  abbrev d : Lead
  d = lead_of g.leads

  abbrev h : ℕ
  h = g.h

  abbrev m : ℕ
  m = g.m

  abbrev c : ℕ
  c = g.c

  abbrev to : ℕ
  to = g.to.start

  abbrev t : ℕ
  t = g.to.step

  abbrev split : ℕ → List ℤ
  split = split_at g l

  shape : Shape d h m
  shape = ready.placed.shape

  high-room : (y : ℕ) → y < m → to + high_at d y * t + 2 * c ≤ length w
  high-room y b = rw staged.long (ready.placed.within (high_at d y) (high-in h m d shape y b))

  low-room : (y : ℕ) → y < h → to + low_at d y * t + 2 * c ≤ length w
  low-room y b = rw staged.long (ready.placed.within (low_at d y) (low-in h m d shape y b))

  module _ (out : Plane) (stands : (r : ℕ) → r < h + m → part l (place g.from r) (2 * c) ≡ tab (2 * c) (out r)) where
    -- column x of the lows along the rows, and of the highs
    lo-col : (x : ℕ) → x < c → (r : ℕ) → r < h + m → at (split r) x ≡ lo_of d h m c out r x
    unfolding lo_of
    lo-col x b r k = ap (λ (z : List ℤ). at (split_row c z) x) (stands r k) ∙ split-low c (out r) x b

    hi-col : (x : ℕ) → x < c → (r : ℕ) → r < h + m → at (split r) (c + x) ≡ hi_of d h m c out r x
    unfolding hi_of
    hi-col x b r k = ap (λ (z : List ℤ). at (split_row c z) (c + x)) (stands r k) ∙ split-high c (out r) x b

    all-bands : Undone d h m c to t out w
    unfolding ll_of band_of
    all-bands = record {
      lls = λ y k. half-front w (to + low_at d y * t) c _ _ (low-room y k) (staged.lows y k) (λ x b. low-col d h m (2 * c) shape split x (omega arith) (λ r. lo_of d h m c out r x) (lo-col x b) y k);
      hls = λ y k. half_back w (to + low_at d y * t) c _ _ (low-room y k) (staged.lows y k) (λ x b. low-col d h m (2 * c) shape split (c + x) (omega arith) (λ r. hi_of d h m c out r x) (hi-col x b) y k);
      lhs = λ y k. half-front w (to + high_at d y * t) c _ _ (high-room y k) (staged.highs y k) (λ x b. high-col d h m (2 * c) shape split x (omega arith) (λ r. lo_of d h m c out r x) (lo-col x b) y k);
      hhs = λ y k. half_back w (to + high_at d y * t) c _ _ (high-room y k) (staged.highs y k) (λ x b. high-col d h m (2 * c) shape split (c + x) (omega arith) (λ r. hi_of d h m c out r x) (hi-col x b) y k);
    }

  -- what lies outside all rows
  outside : (lo hi a n : ℕ) → lo ≤ to → to + (h + m - 1) * t + 2 * c ≤ hi → Apart a n lo (hi - lo) → (r : ℕ) → r < h + m → Apart a n (to + r * t) (2 * c)
  outside lo hi a n p q z r b =
      let k : r * t ≤ (h + m - 1) * t = mul-le-mul_right t (omega arith) in
      ⊎_elim (λ (u : a + n ≤ lo). inl (omega arith)) (λ (u : lo + (hi - lo) ≤ a). inr (omega arith)) z

  pub level-undone : LevelUndone d h m c g.from.start g.from.step to t l w
  level-undone = record {
    bands = all-bands;
    beside = λ lo hi a n p q z. staged.beside a n (outside lo hi a n p q z);
    long = staged.long;
  }

-- the rows of ll where they stand, as the rows that the next level is undone from: each two rows behind the one before it
low_rows : (d : Lead) (to t r : ℕ) → to + low_at d 0 * t + r * (2 * t) ≡ to + low_at d r * t
low_rows low_leads to t r = omega arith
low_rows high_leads to t r = omega arith

pub next-rows : (d : Lead) (h m c to t : ℕ) (out : Plane) (l : List ℤ) (k : ℕ) → c ≡ 2 * k → Undone d h m c to t out l
    → (r : ℕ) → r < h → part l (to + low_at d 0 * t + r * (2 * t)) (2 * k) ≡ tab (2 * k) (ll_of d h m c out r)
next-rows d h m c to t out l k e u r b =
    ap (λ (a : ℕ). part l a (2 * k)) (low_rows d to t r) ∙ ap (λ (n : ℕ). part l (to + low_at d r * t) n) (sym e) ∙ u.lls r b ∙ ap (λ (n : ℕ). tab n (ll_of d h m c out r)) e
