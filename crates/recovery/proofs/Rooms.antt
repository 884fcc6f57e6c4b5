-- The rows of each level lie in the scratch, and a block's packets before it. Assumes nothing.
use Rattle.std.proofs.Common.{◌≡◌, refl, sym, ap, ◌∙◌, subst, Bool, true, false, cond, List, inl, inr, ℕ, suc, ◌+◌, ◌-◌, ◌*◌, ◌/◌, ◌^◌, ◌≤◌, ◌<◌, mul-le-mul_right, mul_comm, mul_assoc, suc-mul, arith, ℤ, pos, length}
use Rattle.std.proofs.lemmas.List.{length-replicate}
use Rattle.lists.specs.Lists.{Apart, part, put_at}
use Rattle.lists.proofs.Tab.{length-put}
use Rattle.lists.proofs.Part.{part-put-in, part-put-out}
use Rattle.format.specs.Coefficients.{zeros}
use Rattle.format.specs.Lifting.{Plane, Shape}
use Rattle.format.specs.Sizes.{Level, l1, l2, l3, base, detail, multiplier, columns}
use Rattle.format.specs.Table.{height, lead, highs}
use Rattle.format.proofs.Exact.{shape, rows-after, after-most}
use Rattle.passes.specs.declared.Plan.{Plan}
use Rattle.passes.specs.Plan.{unit_of}
use Rattle.levels.specs.Steps.{leads}
use Rattle.levels.specs.Block.{group_at}
use Rattle.levels.proofs.Heights.{height-pos, heights}
use Rattle.returning.specs.Return.{Held, packet_size, BaseBeside, BaseGiven, BaseReturned}
use Rattle.returning.proofs.Recovered.{numbers-none}
use Rattle.undoing.specs.Down.{Within, RowsApart, lead_of, low_at}
use Rattle.undoing.proofs.RowLaws.{within_all, rows-beside, rows-regions}
use Rattle.recovery.specs.Recovered.{scratch_at, scratch_size, ll_place, ll_step, step_in, to_in, From, Front, LowRows, none, StepsBack}
use Rattle.recovery.proofs.LevelLaws.{low-row, low-in}
use Rattle.recovery.proofs.IndexLaws.{packet-takes}

-- the first band of a level, as the code has it
pub level-lead : (g : Bool) (l : Level) → lead_of (leads g l) ≡ lead g l
level-lead false l1 = refl
level-lead false l2 = refl
level-lead false l3 = refl
level-lead true l1 = refl
level-lead true l2 = refl
level-lead true l3 = refl

module _ (z : Plan) (place n : ℕ) (k : Front z place n) where
  abbrev v : ℕ
  v = z.w / 16

  whole : z.w ≡ 16 * v
  whole = omega (arith, k.fits.0.whole)

  some : 1 ≤ v
  some = omega (arith, k.fits.0.wide, whole)

  units : unit_of z ≡ z.n * v + v
  units = rw k.all (omega arith)

  pub held : Held z place n
  held = record { fits = k.fits; all = k.all; room = omega (arith, k.front, k.room) }

  few : (l : Level) → height z.guarded z.n l + highs z.guarded l (height z.guarded z.n l) ≤ 2 * multiplier (detail l) * z.n
  few l = omega (arith, rows-after z.guarded z.n l k.fits.0.tall, after-most z.guarded z.n l)

  -- rows so far apart that m of them for each of n take 64 units, and x numbers behind where the last one starts
  span : (m count t x : ℕ) → count ≤ m * z.n → 1 ≤ count → m * t ≡ 64 * v → x ≤ t + 64 * v → (count - 1) * t + x ≤ scratch_size z
  span m count t x most least e f =
      let a = mul-le-mul_right t most in
      let b : m * z.n * t ≡ z.n * (64 * v) = ap (λ (q : ℕ). q * t) (mul_comm m z.n) ∙ mul_assoc z.n m t ∙ ap (λ (q : ℕ). z.n * q) e in
      let s : suc (count - 1) ≡ count = omega arith in
      let d : (count - 1) * t + t ≡ count * t = sym (suc-mul (count - 1) t) ∙ ap (λ (q : ℕ). q * t) s in
      omega (arith, a, b, d, f, units)

  -- a packet of the block ends before the scratch
  pub packet-front : (l : Level) → group_at z place (detail l) + packet_size z (detail l) ≤ scratch_at z
  packet-front l1 = omega (arith, packet-takes z (detail l1) k.fits.0.whole k.all, k.front)
  packet-front l2 = omega (arith, packet-takes z (detail l2) k.fits.0.whole k.all, k.front)
  packet-front l3 = omega (arith, packet-takes z (detail l3) k.fits.0.whole k.all, k.front)

  -- ---- a level: h lows and m highs of c columns
  abbrev h : Level → ℕ
  h l = height z.guarded z.n l

  abbrev m : Level → ℕ
  m l = highs z.guarded l (h l)

  abbrev c : Level → ℕ
  c l = columns z.w (detail l)

  some-rows : (l : Level) → 1 ≤ h l
  some-rows = height-pos z.guarded z.n k.fits.0.tall

  two-rows : (l : Level) → 1 ≤ h l + m l - 1
  two-rows l = omega (arith, some-rows l, (heights z.guarded z.n k.fits.0.tall l).0)

  pub shaped : (l : Level) → Shape (lead z.guarded l) (h l) (m l)
  shaped l = shape z.guarded z.n l k.fits.0.tall

  pub shape-of : (l : Level) → (1 ≤ c l) × (2 * c l ≤ step_in z l) × (1 ≤ h l) × Shape (lead_of (leads z.guarded l)) (h l) (m l)
  shape-of l = (wide l, narrow l, some-rows l, rw (level-lead z.guarded l) (shaped l))
    where
      wide : (l : Level) → 1 ≤ c l
      wide l1 = omega (arith, k.fits.0.wide)
      wide l2 = omega (arith, k.fits.0.wide)
      wide l3 = omega (arith, k.fits.0.wide)

      narrow : (l : Level) → 2 * c l ≤ step_in z l
      narrow l1 = omega arith
      narrow l2 = omega arith
      narrow l3 = omega arith

  -- the rows of a level undone end in the scratch
  pub span-of : (l : Level) (from : ℕ) → From z l from → to_in z l from + (h l + m l - 1) * step_in z l + 2 * c l ≤ scratch_at z + scratch_size z
  span-of l3 from w =
      let s = span 8 (h l3 + m l3) (z.w / 2) (2 * (z.w / 4)) (few l3) (omega (arith, two-rows l3)) (omega (arith, whole)) (omega (arith, whole)) in
      omega (arith, s)
  span-of l2 from w =
      let s = span 4 (h l2 + m l2) z.w (4 * (z.w / 8)) (few l2) (omega (arith, two-rows l2)) (omega (arith, whole)) (omega (arith, whole)) in
      omega (arith, s, w)
  span-of l1 from w =
      let s = span 2 (h l1 + m l1) (2 * z.w) (24 * (z.w / 16)) (few l1) (omega (arith, two-rows l1)) (omega (arith, whole)) (omega (arith, whole)) in
      omega (arith, s, whole, w, most z.guarded)
    where
      most : (g : Bool) → cond g z.w 0 ≤ z.w
      most true = omega arith
      most false = omega arith

  pub start-of : (l : Level) (from : ℕ) → From z l from → scratch_at z ≤ to_in z l from
  start-of l3 from w = omega arith
  start-of l2 from w = omega (arith, w)
  start-of l1 from w = omega (arith, w)

  behind : (l : Level) (from : ℕ) → from + 2 * c l + (h l + m l - 1) * step_in z l + 2 * c l ≤ n → 4 * c l ≤ step_in z l
      → Within from (step_in z l) (2 * c l) (h l + m l) n × Within (from + 2 * c l) (step_in z l) (2 * c l) (h l + m l) n × RowsApart from (step_in z l) (from + 2 * c l) (step_in z l) (2 * c l) (h l + m l)
  behind l from s wide = (
    within_all from (step_in z l) (2 * c l) (h l + m l) n (omega (arith, s)),
    within_all (from + 2 * c l) (step_in z l) (2 * c l) (h l + m l) n (omega (arith, s)),
    rows-beside from (step_in z l) (2 * c l) (h l + m l) (omega (arith, wide)),
  )

  -- the rows that it comes from lie in the work slice, and each is read before it is written
  pub rows-of : (l : Level) (from : ℕ) → From z l from
      → Within from (step_in z l) (2 * c l) (h l + m l) n × Within (to_in z l from) (step_in z l) (2 * c l) (h l + m l) n × RowsApart from (step_in z l) (to_in z l from) (step_in z l) (2 * c l) (h l + m l)
  rows-of l3 from w =
      let s = span-of l3 from w in (
        within_all from (z.w / 2) (2 * (z.w / 4)) (h l3 + m l3) n (omega (arith, s, w, k.room)),
        within_all (scratch_at z) (z.w / 2) (2 * (z.w / 4)) (h l3 + m l3) n (omega (arith, s, k.room)),
        rows-regions from (z.w / 2) (scratch_at z) (z.w / 2) (2 * (z.w / 4)) (h l3 + m l3) (inl (omega (arith, s, w))),
      )
  rows-of l2 from w = behind l2 from (omega (arith, span-of l2 from w, k.room)) (omega arith)
  rows-of l1 from w = behind l1 from (omega (arith, span-of l1 from w, k.room)) (omega arith)

  pub order-of : (l : Level) (from : ℕ) → From z l from → let a = group_at z place (detail l) in
      (a ≤ a + packet_size z (detail l)) × (a + packet_size z (detail l) ≤ to_in z l from) × (a + packet_size z (detail l) ≤ n) × (to_in z l from + step_in z l < 2 ^ 63)
  order-of l from w =
      let f = packet-front l in
      let one : 1 * step_in z l ≤ (h l + m l - 1) * step_in z l = mul-le-mul_right (step_in z l) (two-rows l) in
      (omega arith, omega (arith, f, start-of l from w), omega (arith, f, k.room), omega (arith, one, span-of l from w, k.fits.1.small))

  -- where its ll stands
  first-low : (g : Bool) (w : ℕ) → low_at (lead_of g) 0 * w ≡ cond g w 0
  first-low true w = omega arith
  first-low false w = omega arith

  pub low-of : (l : Level) (from : ℕ) → From z l from → to_in z l from + low_at (lead z.guarded l) 0 * step_in z l ≡ ll_place z l
  low-of l3 from w = rw (← level-lead z.guarded l3) (omega arith)
  low-of l2 from w = rw (← level-lead z.guarded l2) (omega (arith, w, first-low z.guarded z.w))
  low-of l1 from w = rw (← level-lead z.guarded l1) (omega (arith, w, first-low z.guarded (2 * z.w)))

  pub step-of : (l : Level) → 2 * step_in z l ≡ ll_step z l
  step-of l3 = omega (arith, whole)
  step-of l2 = refl
  step-of l1 = omega arith

  -- row y of level 1's ll stands in the scratch
  pub ll-in : (y : ℕ) → y < height z.guarded z.n l1 → ll_place z l1 + y * ll_step z l1 + z.w / 16 ≤ scratch_at z + scratch_size z
  ll-in y b =
      let d = lead z.guarded l1 in
      let h = height z.guarded z.n l1 in
      let m = highs z.guarded l1 h in
      let i = mul-le-mul_right (2 * z.w) (low-in d h m y (shape z.guarded z.n l1 k.fits.0.tall) b) in
      let r = low-row d (ll_place z l2 + 2 * (z.w / 16)) (2 * z.w) y in
      let s : y * (2 * (2 * z.w)) ≡ y * (4 * z.w) = omega arith in
      omega (arith, i, r, s, low-of l1 (ll_place z l2) refl, span-of l1 (ll_place z l2) refl)

  -- ---- band 0: its packet ends before the scratch, where level 1's ll stands
  base-front : group_at z place base + packet_size z base ≤ scratch_at z
  base-front = omega (arith, packet-takes z base k.fits.0.whole k.all, k.front)

  pub base-clean : (m : ℕ) → scratch_at z + scratch_size z ≤ m → BaseBeside z place (ll_place z l1) (ll_step z l1) m
  base-clean m room y b = (omega (arith, ll-in y b, room), inr (omega (arith, base-front)))

  module _ (before mid : List ℤ) (long : length before ≡ n) (clear : mid ≡ put_at before (group_at z place base) (zeros (packet_size z base))) where
    many : length (zeros (packet_size z base)) ≡ packet_size z base
    many = length-replicate (packet_size z base) (pos 0)

    fits : group_at z place base + length (zeros (packet_size z base)) ≤ length before
    fits = omega (arith, many, long, base-front, k.room)

    outside : (s c : ℕ) → Apart s c (group_at z place base) (packet_size z base) → part mid s c ≡ part before s c
    outside s c q = rw clear (part-put-out before (group_at z place base) (zeros (packet_size z base)) fits s c (packet_size z base) many q)

    cleared : part mid (group_at z place base) (packet_size z base) ≡ zeros (packet_size z base)
    cleared =
        rw clear
        (subst (λ (c : ℕ). part (put_at before (group_at z place base) (zeros (packet_size z base))) (group_at z place base) c ≡ zeros (packet_size z base)) many
        (part-put-in before (group_at z place base) (zeros (packet_size z base)) fits))

    stand : (ll : Plane) → LowRows z l1 ll before → BaseGiven z (ll_place z l1) (ll_step z l1) ll mid
    stand ll rows y b = outside (ll_place z l1 + y * ll_step z l1) (z.w / 16) (inr (omega (arith, base-front))) ∙ rows y b

    pub base-long : length mid ≡ length before
    base-long = ap length clear ∙ length-put before (group_at z place base) (zeros (packet_size z base)) fits

    pub steps_back : (after : List ℤ) (r : ℕ) → BaseReturned z place (ll_place z l1) (ll_step z l1) mid after r → StepsBack z place before after r
    steps_back after r back = record {
      numbers = λ ll rows. back.numbers ll none (stand ll rows) (numbers-none z place base mid cleared);
      refusal = λ ll rows. back.refusal ll (stand ll rows);
      beside = λ s c q. back.beside s c q ∙ outside s c q;
      long = back.same ∙ base-long;
    }
