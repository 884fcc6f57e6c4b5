-- A level undone in the scratch, its bands back in their packet. Assumes nothing.
use Rattle.std.proofs.Common.{◌≡◌, refl, sym, ap, ◌∙◌, subst, Bool, List, ◌++◌, inr, ⊎_elim, ℕ, ◌+◌, ◌-◌, ◌*◌, ◌≤◌, ◌<◌, mul-le-mul_right, arith, ℤ, pos, length, take, drop}
use Rattle.std.proofs.lemmas.List.{length-replicate}
use Rattle.lists.specs.Lists.{Apart, part, put_at}
use Rattle.lists.proofs.Part.{part-put-in, part-put-out}
use Rattle.lists.proofs.Tab.{length-put, length_part}
use Rattle.format.specs.Coefficients.{zeros}
use Rattle.format.specs.Lifting.{Plane, Lead, low_leads, high_leads, Shape}
use Rattle.format.specs.Sizes.{Level, detail, columns}
use Rattle.format.specs.Table.{height, lead, highs, hl, lh, hh}
use Rattle.format.specs.Recovery.{ll_of, band_of, unstep, unband}
use Rattle.passes.specs.declared.Plan.{Plan}
use Rattle.levels.specs.Block.{group_at}
use Rattle.undoing.specs.Down.{low_at, high_at, LevelUndone}
use Rattle.undoing.specs.Down as down
use Rattle.returning.specs.Return.{packet_size, Numbers, Beside, Given, BandsReturned}
use Rattle.returning.proofs.Recovered.{numbers-none}
use Rattle.returning.specs.declared.Undone.{Undone}
use Rattle.recovery.specs.Recovered.{RowsAt, Ready, scratch_at, scratch_size, ll_place, ll_step, LevelReady, LevelRows, LowRows, none, LevelBack}

-- ---- where low y and high y stand, row by row; none stands behind the last row
pub low-row : (d : Lead) (to t y : ℕ) → to + low_at d y * t ≡ to + low_at d 0 * t + y * (2 * t)
low-row low_leads to t y = omega arith
low-row high_leads to t y = omega arith

pub high-row : (d : Lead) (to t y : ℕ) → to + high_at d y * t ≡ to + high_at d 0 * t + y * (2 * t)
high-row low_leads to t y = omega arith
high-row high_leads to t y = omega arith

pub low-in : (d : Lead) (h m y : ℕ) → Shape d h m → y < h → low_at d y ≤ h + m - 1
low-in low_leads h m y e b = omega arith
low-in high_leads h m y e b = ⊎_elim (λ q. omega arith) (λ q. omega arith) e.1

pub high-in : (d : Lead) (h m y : ℕ) → Shape d h m → y < m → high_at d y ≤ h + m - 1
high-in low_leads h m y e b = omega arith
high-in high_leads h m y e b = ⊎_elim (λ q. omega arith) (λ q. omega arith) e.1

-- ---- zeros in the place of k numbers
pub put-zeros : (l ys : List ℤ) (a k : ℕ) → a + k ≤ length l → ys ≡ zeros (length (part l a k)) → take a l ++ (ys ++ drop k (drop a l)) ≡ put_at l a (zeros k)
put-zeros l ys a k room e =
    let f : length (part l a k) ≡ k = length_part l a k room in
    let g : ys ≡ zeros k = e ∙ ap zeros f in
    let n = sym (length-replicate k (pos 0)) in
    λ i. take a l ++ (g i ++ drop (n i) (drop a l))

-- ---- a level undone, and numbers before its rows cleared
module _ (d : Lead) (h m c from s to t a b : ℕ) (before mid after : List ℤ) (u : Undone) (level : LevelUndone d h m c from s to t before mid)
    (clear : after ≡ put_at mid a (zeros (b - a))) (order : a ≤ b) (front : b ≤ to) (room : b ≤ length before)
    (lows : u.low ≡ to + low_at d 0 * t) (highs : u.high ≡ to + high_at d 0 * t) (stride : u.stride ≡ 2 * t) where
  many : length (zeros (b - a)) ≡ b - a
  many = length-replicate (b - a) (pos 0)

  outside : (k n : ℕ) → Apart k n a (b - a) → part after k n ≡ part mid k n
  outside k n q = rw clear (part-put-out mid a (zeros (b - a)) (omega (arith, many, level.long)) k n (b - a) many q)

  behind : (k q : ℕ) → k ≡ q → to ≤ q → part after k c ≡ part mid q c
  behind k q e f = ap (λ (x : ℕ). part after x c) e ∙ outside q c (inr (omega (arith, order, front)))

  module _ (out : Plane) (stand : RowsAt from s (2 * c) (h + m) out before) where
    bands : down.Undone d h m c to t out mid
    bands = level.bands out stand

    lls-stand : RowsAt u.low u.stride c h (ll_of d h m c out) after
    lls-stand y q = behind (u.low + y * u.stride) (to + low_at d y * t) (rw (lows, stride) (sym (low-row d to t y))) (omega arith) ∙ bands.lls y q

    hls-stand : RowsAt (u.low + c) u.stride c h (band_of d h m c out hl) after
    hls-stand y q = behind (u.low + c + y * u.stride) (to + low_at d y * t + c) (rw (lows, stride) (omega (arith, low-row d to t y))) (omega arith) ∙ bands.hls y q

    lhs-stand : RowsAt u.high u.stride c m (band_of d h m c out lh) after
    lhs-stand y q = behind (u.high + y * u.stride) (to + high_at d y * t) (rw (highs, stride) (sym (high-row d to t y))) (omega arith) ∙ bands.lhs y q

    hhs-stand : RowsAt (u.high + c) u.stride c m (band_of d h m c out hh) after
    hhs-stand y q = behind (u.high + c + y * u.stride) (to + high_at d y * t + c) (rw (highs, stride) (omega (arith, high-row d to t y))) (omega arith) ∙ bands.hhs y q

  pub ready : Ready d h m c from s to t a b before after u
  ready = record {
    lows = lows;
    highs = highs;
    stride = stride;
    lls = lls-stand;
    hls = hls-stand;
    lhs = lhs-stand;
    hhs = hhs-stand;
    cleared = rw clear (subst (λ (n : ℕ). part (put_at mid a (zeros (b - a))) a n ≡ zeros (b - a)) many (part-put-in mid a (zeros (b - a)) (omega (arith, many, level.long))));
    beside = λ lo hi k n x y z q. outside k n q ∙ level.beside lo hi k n x y z;
    long = ap length clear ∙ length-put mid a (zeros (b - a)) (omega (arith, many, level.long)) ∙ level.long;
  }

-- ---- the bands back in their packet
module _ (z : Plan) (place : ℕ) (l : Level) (odd : Bool) (from s to t : ℕ) (before mid after : List ℤ) (u : Undone) (r : ℕ) where
  abbrev h : ℕ
  h = height z.guarded z.n l

  abbrev m : ℕ
  m = highs z.guarded l h

  abbrev c : ℕ
  c = columns z.w (detail l)

  abbrev a : ℕ
  a = group_at z place (detail l)

  module _ (shape : Shape (lead z.guarded l) h m) (front : a + packet_size z (detail l) ≤ scratch_at z) (start : scratch_at z ≤ to) (room : to + (h + m - 1) * t + 2 * c ≤ scratch_at z + scratch_size z) where
    in-scratch : (k : ℕ) → k ≤ h + m - 1 → to + k * t + 2 * c ≤ scratch_at z + scratch_size z
    in-scratch k b = omega (arith, mul-le-mul_right t b, room)

    module _ (ready : LevelReady z place l from s to t before mid u) where
      -- its rows are clean
      pub clean : (n : ℕ) → scratch_at z + scratch_size z ≤ n → Beside z place l u n
      clean n long = record {
        lows = λ y b.
            let e : u.low + y * u.stride ≡ to + low_at (lead z.guarded l) y * t = rw (ready.lows, ready.stride) (sym (low-row (lead z.guarded l) to t y)) in
            let i = in-scratch _ (low-in (lead z.guarded l) h m y shape b) in
            (omega (arith, e, i, long), inr (omega (arith, e, front, start)));
        highs = λ y b.
            let e : u.high + y * u.stride ≡ to + high_at (lead z.guarded l) y * t = rw (ready.highs, ready.stride) (sym (high-row (lead z.guarded l) to t y)) in
            let i = in-scratch _ (high-in (lead z.guarded l) h m y shape b) in
            (omega (arith, e, i, long), inr (omega (arith, e, front, start)));
      }

      module _ (returned : BandsReturned z place l odd u mid after r) (low : u.low ≡ ll_place z l) (step : u.stride ≡ ll_step z l) where
        given : (out : Plane) → LevelRows z l from s out before → Given z l u (unband z.guarded z.n z.w l out) mid
        given out stand hl y b = ready.hls out stand y b
        given out stand lh y b = ready.lhs out stand y b
        given out stand hh y b = ready.hhs out stand y b

        cleared : Numbers z place (detail l) none mid
        cleared =
            let e : a + packet_size z (detail l) - a ≡ packet_size z (detail l) = omega arith in
            numbers-none z place (detail l) mid (subst (λ (n : ℕ). part mid a n ≡ zeros n) e ready.cleared)

        lls-stay : (out : Plane) → LevelRows z l from s out before → LowRows z l (unstep z.guarded z.n z.w l out) after
        lls-stay out stand y b =
            let e : ll_place z l + y * ll_step z l ≡ u.low + y * u.stride = rw (low, step) refl in
            ap (λ (k : ℕ). part after k c) e
            ∙ returned.beside (u.low + y * u.stride) c (inr (omega (arith, ready.lows, front, start))) ∙ ready.lls out stand y b

        apart : (k n : ℕ) → Apart k n a (packet_size z (detail l)) → Apart k n (scratch_at z) (scratch_size z) → part after k n ≡ part before k n
        apart k n p q =
            let e : a + packet_size z (detail l) - a ≡ packet_size z (detail l) = omega arith in
            let f : scratch_at z + scratch_size z - scratch_at z ≡ scratch_size z = omega arith in
            returned.beside k n p ∙ ready.beside (scratch_at z) (scratch_at z + scratch_size z) k n start room (subst (Apart k n (scratch_at z)) (sym f) q) (subst (Apart k n a) (sym e) p)

        pub level-back : LevelBack z place l odd from s before after r
        level-back = record {
          lls = lls-stay;
          numbers = λ out stand. returned.numbers (unband z.guarded z.n z.w l out) none (given out stand) cleared;
          refusal = λ out stand. returned.refusal (unband z.guarded z.n z.w l out) (given out stand);
          beside = apart;
          long = returned.same ∙ ready.long;
        }
