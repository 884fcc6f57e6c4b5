-- Planes as they go into the work slice, and green's details in group 4's packet. Assumes nothing.
use Rattle.std.proofs.Common.{◌≡◌, refl, sym, ap, ◌∙◌, subst, Bool, true, false, List, inl, inr, ⊎_elim, ℕ, ◌+◌, ◌*◌, ◌/◌, ◌≤◌, ◌<◌, mul-le-mul_right, mul_comm, mul_assoc, arith, ℤ, pos, length, get_or, take, length-take, le-ltb}
use Rattle.lists.specs.Lists.{Apart, part, put_at, tab, laid}
use Rattle.lists.proofs.Tab.{length-tab, tab-same, part-tab, length-put}
use Rattle.lists.proofs.Part.{part-put-within, part-put-out, part-part}
use Rattle.lists.proofs.Laid.{length-laid, laid_in, laid_same}
use Rattle.format.specs.Sizes.{plane_rows}
use Rattle.format.specs.Recovery.{read_plane, d_of, l_of}
use Rattle.passes.specs.declared.Plan.{Plan}
use Rattle.passes.specs.Plan.{unit_of}
use Rattle.undoing.specs.Down.{detail_at, DetailsStand}
use Rattle.undoing.proofs.RowLaws.{row_before, dense-in}
use Rattle.recovery.specs.Recovered.{scratch_at, Front, IndexRows}

-- ---- rows one behind the other
module _ (to c count : ℕ) (f : ℕ → List ℤ) (l : List ℤ) (each : (y : ℕ) → length (f y) ≡ c) (room : to + count * c ≤ length l) where
  pub dense : (y : ℕ) → y < count → part (laid (λ k. to + k * c) f l count) (to + y * c) c ≡ f y
  dense y b = laid_in (λ k. to + k * c) f l c count each (dense-in to c count (length l) room) y count b (omega arith) (λ i p q. inl (row_before to c c y i (omega arith) p))

  pub dense-long : length (laid (λ k. to + k * c) f l count) ≡ length l
  dense-long = length-laid (λ k. to + k * c) f l c count each (dense-in to c count (length l) room) count (omega arith)

-- ---- details with no gap
pub at_once : (y : ℕ) → detail_at 0 0 y ≡ y
at_once y = rw (le-ltb y 0 (omega arith)) (omega arith)

-- ---- the rows of a plane are at most eight for each of n
pub rows-most : (g : Bool) (n : ℕ) → plane_rows g n ≤ 8 * n
rows-most false n = omega arith
rows-most true n = omega arith

module _ (z : Plan) (place n : ℕ) (k : Front z place n) where
  abbrev c : ℕ
  c = z.w / 2

  abbrev count : ℕ
  count = plane_rows z.guarded z.n

  pub halves : 2 * c ≡ z.w
  halves = omega (arith, k.fits.0.whole)

  units : unit_of z ≡ z.n * (z.w / 16) + z.w / 16
  units = rw k.all (omega arith)

  pub some-columns : 1 ≤ c
  some-columns = omega (arith, k.fits.0.wide)

  pub plane-long : (m : ℕ) → count * z.w ≤ m → count * (2 * c) ≤ m
  plane-long m h = subst (λ (w : ℕ). count * w ≤ m) (sym halves) h

  -- so they take no more than a block
  pub plane-in : count * c ≤ 64 * unit_of z
  plane-in =
      let a = mul-le-mul_right c (rows-most z.guarded z.n) in
      let e : c ≡ 8 * (z.w / 16) = omega (arith, k.fits.0.whole) in
      let b : 8 * z.n * c ≡ z.n * (64 * (z.w / 16)) = ap (λ (q : ℕ). q * c) (mul_comm 8 z.n) ∙ mul_assoc z.n 8 c ∙ ap (λ (q : ℕ). z.n * (8 * q)) e ∙ ap (λ (q : ℕ). z.n * q) (omega arith) in
      omega (arith, a, b, units)

  pub details-in : (y : ℕ) → y < count → scratch_at z + detail_at 0 0 y * c + c ≤ n
  details-in y b = rw (at_once y) (dense-in (scratch_at z) c count n (omega (arith, plane-in, k.room)) y b)

  -- a plane copied into a block
  pub copied : (plane before after : List ℤ) (at : ℕ) → count * c ≤ length plane → at + count * c ≤ length before → after ≡ put_at before at (take (count * c) plane) → IndexRows z at (read_plane c plane) after
  copied plane before after at room long e y b =
      let m = mul-le-mul_right c b in
      let t : length (take (count * c) plane) ≡ count * c = length-take (count * c) plane ∙ omega arith in
      rw e
      (part-put-within before at (take (count * c) plane) (omega (arith, t)) (y * c) c (omega (arith, t, m))
      ∙ part-part plane 0 (count * c) (y * c) c (omega (arith, m))
      ∙ part-tab plane (0 + y * c) c (pos 0) (omega (arith, m))
      ∙ tab-same c _ _ (λ x _. ap (λ (q : ℕ). get_or plane q (pos 0)) (omega arith)))

  module _ (plane before after : List ℤ) (enough : count * c ≤ length plane) (long : place + count * c ≤ length before) (is : after ≡ put_at before place (take (count * c) plane)) where
    taken : length (take (count * c) plane) ≡ count * c
    taken = length-take (count * c) plane ∙ omega arith

    pub copied-long : length after ≡ length before
    copied-long = ap length is ∙ length-put before place (take (count * c) plane) (omega (arith, taken))

    pub copied-out : (s m : ℕ) → Apart s m place (64 * unit_of z) → part after s m ≡ part before s m
    copied-out s m q =
        rw is
        (part-put-out before place (take (count * c) plane) (omega (arith, taken)) s m (count * c) taken
        (⊎_elim (λ (p : s + m ≤ place). inl p) (λ (p : place + 64 * unit_of z ≤ s). inr (omega (arith, plane-in))) q))

-- ---- green's averages
module _ (z : Plan) (n : ℕ) (k : Front z 0 n) (plane before : List ℤ) (long : length before ≡ n) where
  abbrev half : ℕ
  half = z.w / 2

  abbrev tall : ℕ
  tall = plane_rows z.guarded z.n

  abbrev detail_row : ℕ → List ℤ
  detail_row y = tab half (d_of tall (read_plane (2 * half) plane) y)

  -- details one row behind the other in the scratch
  module _ (mid : List ℤ) (is : mid ≡ laid (λ y. scratch_at z + detail_at 0 0 y * half) detail_row before tall) where
    as-dense : mid ≡ laid (λ y. scratch_at z + y * half) detail_row before tall
    as-dense = is ∙ laid_same _ (λ y. scratch_at z + y * half) detail_row detail_row before tall (λ y _. ap (λ (q : ℕ). scratch_at z + q * half) (at_once y)) (λ y _. refl)

    room : scratch_at z + tall * half ≤ length before
    room = omega (arith, plane-in z 0 n k, k.room, long)

    pub details-long : length mid ≡ length before
    details-long = ap length as-dense ∙ dense-long (scratch_at z) half tall detail_row before (λ y. length-tab half _) room

    pub details-stand : DetailsStand tall half plane mid (scratch_at z)
    details-stand y b = rw as-dense (dense (scratch_at z) half tall detail_row before (λ y. length-tab half _) room y b)

    abbrev average_row : ℕ → List ℤ
    average_row y = tab half (l_of tall half (read_plane (2 * half) plane) y)

    module _ (after : List ℤ) (made : after ≡ laid (λ y. 64 * unit_of z + y * half) average_row mid tall) where
      fits : 64 * unit_of z + tall * half ≤ length mid
      fits = omega (arith, plane-in z 0 n k, k.room, long, details-long)

      pub averages-stand : IndexRows z (64 * unit_of z) (l_of tall half (read_plane z.w plane)) after
      averages-stand y b =
          let e = dense (64 * unit_of z) half tall average_row mid (λ y. length-tab half _) fits y b in
          rw made (subst (λ (w : ℕ). part (laid (λ y. 64 * unit_of z + y * half) average_row mid tall) (64 * unit_of z + y * half) half ≡ tab half (l_of tall half (read_plane w plane) y)) (halves z 0 n k) e)

      pub averages-long : length after ≡ length before
      averages-long = ap length made ∙ dense-long (64 * unit_of z) half tall average_row mid (λ y. length-tab half _) fits ∙ details-long
