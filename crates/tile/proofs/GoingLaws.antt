-- The way through a tile, step by step: records laid, a packet done, green's averages, the planes. Assumes nothing.
use Rattle.std.proofs.Common.{◌≡◌, sym, ap, ◌∙◌, subst, List, inl, inr, ⊎_elim, ℕ, zero, suc, ◌+◌, ◌*◌, ◌/◌, ◌%◌, ◌≤◌, ◌<◌, eq-or-lt_of_le, zero-add, arith, lt-ltb, ℤ, length}
use Rattle.wrap32.specs.Arithmetic.{wrapping}
use Rattle.lists.specs.Lists.{Apart, part, rows, SameBelow}
use Rattle.lists.proofs.Rings.{rung-on, rung-out, rung-kept}
use Rattle.lists.proofs.Rows.{length-rows, rows_same}
use Rattle.lists.proofs.Tab.{length-tab}
use Rattle.format.specs.Coefficients.{coefs}
use Rattle.format.specs.Lifting.{Plane}
use Rattle.format.specs.Sizes.{numbered, indexed, group_in, colour_in, Colour, green, red, blue, Level, l1, l2, l3, Group, base, detail, final, number, multiplier, components, columns, plane_rows}
use Rattle.format.specs.Synthesis.{outcome, both_greens, flat, planes}
use Rattle.format.specs.Table.{chosen}
use Rattle.format.proofs.TableLaws.{chosen-in}
use Rattle.passes.specs.declared.Plan.{Plan}
use Rattle.passes.specs.Plan.{line, unit_of, final_units, Fits}
use Rattle.passes.proofs.PlaceLaws.{place_is}
use Rattle.green.specs.Green.{NearGreen}
use Rattle.levels.specs.Placed.{row_in}
use Rattle.levels.specs.Block.{stood, record_size, record_lines, Stood, group_at, Records, Lowered, Outcomes, Averaged}
use Rattle.levels.proofs.Blocks.{group-room}
use Rattle.levels.proofs.Stood.{stood-row}
use Rattle.tile.specs.Packets.{Measured, packet_laid}
use Rattle.tile.specs.Going.{decoded_plane, averages_at, passing_at, Going}
use Rattle.format.proofs.Numbered.{group-number}

-- the ring of one group ends where that of a later one starts, or before
rings-apart : (z : Plan) → z.w % 16 ≡ 0 → (m : Group) (k : ℕ) → number m < k → k < 4 → group_at z 0 m + z.slots * record_size z.w m ≤ group_at z 0 (numbered k)
rings-apart z w m zero a b = absurd (omega arith)
rings-apart z w base (suc zero) a b = omega arith
rings-apart z w (detail l1) (suc zero) a b = absurd (omega arith)
rings-apart z w (detail l2) (suc zero) a b = absurd (omega arith)
rings-apart z w (detail l3) (suc zero) a b = absurd (omega arith)
rings-apart z w final (suc zero) a b = absurd (omega arith)
rings-apart z w base (suc (suc zero)) a b = omega arith
rings-apart z w (detail l1) (suc (suc zero)) a b = omega arith
rings-apart z w (detail l2) (suc (suc zero)) a b = absurd (omega arith)
rings-apart z w (detail l3) (suc (suc zero)) a b = absurd (omega arith)
rings-apart z w final (suc (suc zero)) a b = absurd (omega arith)
rings-apart z w base (suc (suc (suc zero))) a b = omega arith
rings-apart z w (detail l1) (suc (suc (suc zero))) a b = omega arith
rings-apart z w (detail l2) (suc (suc (suc zero))) a b = let d : z.w / 8 ≡ 2 * (z.w / 16) = omega (arith, w) in rw d (omega arith)
rings-apart z w (detail l3) (suc (suc (suc zero))) a b = absurd (omega arith)
rings-apart z w final (suc (suc (suc zero))) a b = absurd (omega arith)
rings-apart z w m (suc (suc (suc (suc k)))) a b = absurd (omega arith)

pub length-lines : (w : ℕ) (m : Group) (p : ℕ → Plane) (t : ℕ) → length (record_lines w m p t) ≡ record_size w m
length-lines w m p t = length-rows (columns w m) _ (λ j. length-tab (columns w m) _) (components m * multiplier m)

module _ (s : List ℕ) (z : Plan) (fits : Fits z 0) where
  abbrev r : ℕ
  r = plane_rows z.guarded z.n

  -- averages stay where nothing behind the block has changed
  averages-kept : (work after : List ℤ) → ((a k : ℕ) → averages_at z ≤ a → a + k ≤ passing_at z → part after a k ≡ part work a k) → Outcomes z (coefs s) green (averages_at z) 0 r work → Outcomes z (coefs s) green (averages_at z) 0 r after
  averages-kept work after e =
      let d : z.w / 2 ≡ 8 * (z.w / 16) = omega (arith, fits.0.whole) in
      let size : z.slots * 8 * (z.w / 2) ≡ final_units * unit_of z = rw d (omega arith) in
      rung-kept (averages_at z) (z.w / 2) (z.slots * 8) (line (z.w / 2) (outcome wrapping z.guarded z.n z.w green (coefs s))) 0 r work after (omega (arith, fits.1.some))
      (λ a k p q. e a k p (omega (arith, size, q)))

  -- ---- records of packet p
  module _ (p i count : ℕ) (low : p < 13) (room : i + count ≤ z.slots) (work after full reds blues : List ℤ) (long : final_units * unit_of z ≤ length work) (e : after ≡ packet_laid s z p i count work) where
    abbrev at : ℕ
    at = group_at z 0 (group_in p)

    abbrev n : ℕ
    n = record_size z.w (group_in p)

    abbrev f : ℕ → List ℤ
    f = record_lines z.w (group_in p) (stood z.guarded z.n (coefs s) (group_in p) (colour_in p))

    each : (t : ℕ) → length (f t) ≡ n
    each t = length-lines z.w (group_in p) (stood z.guarded z.n (coefs s) (group_in p) (colour_in p)) t

    fit : at + z.slots * n ≤ length work
    fit = omega (arith, group-room z 0 fits.0.whole (group_in p), long)

    beside : (a k : ℕ) → Apart a k at (z.slots * n) → part after a k ≡ part work a k
    beside a k o = ap (λ (l : List ℤ). part l a k) e ∙ rung-out at n z.slots f each fits.1.some work fit i count a k o

    group-is : p < 12 → at ≡ group_at z 0 (numbered (p % 4))
    group-is h = rw (lt-ltb p 12 h)

    pub going-laid : Going s z p i work full reds blues → Going s z p (i + count) after full reds blues
    going-laid g = record {
      whole = λ m a b.
          rung-kept (group_at z 0 m) (record_size z.w m) z.slots _ 0 (z.n + 1) work after fits.1.some
          (λ x k _ q. beside x k (inl (omega (arith, q, rings-apart z fits.0.whole m (p % 4) a (omega arith), group-is b))))
          (g.whole m a b);
      begun = rw e (rung-on at n z.slots f each fits.1.some work fit 0 i count 0 g.begun (omega arith) (omega (arith, room)));
      averages = λ h.
          averages-kept work after (λ a k q _. beside a k (inr (omega (arith, q, group-room z 0 fits.0.whole (group_in p))))) (g.averages h);
      red-done = g.red-done;
      blue-done = g.blue-done;
      green-done = g.green-done;
    }

  module _ (work full reds blues : List ℤ) where
    -- at first nothing need stand
    pub going_start : Going s z 0 0 work full reds blues
    going_start = record {
      whole = λ m a b. absurd (omega (arith, a));
      begun = λ t _ b. absurd (omega (arith, b));
      averages = λ h. absurd (omega (arith, h));
      red-done = λ h. absurd (omega (arith, h));
      blue-done = λ h. absurd (omega (arith, h));
      green-done = λ h. absurd (omega (arith, h));
    }

    -- a packet that is not the last of its index
    pub going_on : (p : ℕ) → p < 12 → p % 4 < 3 → Going s z p (z.n + 1) work full reds blues → Going s z (p + 1) 0 work full reds blues
    going_on p a b g = record {
      whole = λ m c d. subst (λ (i : Colour). Stood z (coefs s) m i (group_at z 0 m) 0 (z.n + 1) work) same (before m (omega (arith, c, b)));
      begun = λ t _ h. absurd (omega (arith, h));
      averages = λ h. g.averages (omega (arith, h, b));
      red-done = λ h. g.red-done (omega (arith, h, b));
      blue-done = λ h. absurd (omega (arith, h, a, b));
      green-done = λ h. absurd (omega (arith, h, a));
    }
      where
        same : colour_in p ≡ colour_in (p + 1)
        same =
            let q : p / 4 ≡ (p + 1) / 4 = omega (arith, b) in
            rw (lt-ltb p 12 a, lt-ltb (p + 1) 12 (omega (arith, a, b))) (ap indexed q)

        own : (m : Group) → number m ≡ p % 4 → group_in p ≡ m
        own m e = rw (lt-ltb p 12 a) (ap numbered (sym e) ∙ group-number m)

        before : (m : Group) → number m ≤ p % 4 → Stood z (coefs s) m (colour_in p) (group_at z 0 m) 0 (z.n + 1) work
        before m h =
            ⊎_elim
            (λ (e : number m ≡ p % 4). subst (λ (k : Group). Stood z (coefs s) k (colour_in p) (group_at z 0 k) 0 (z.n + 1) work) (own m e) g.begun)
            (λ (e : number m < p % 4). g.whole m e a)
            (eq-or-lt_of_le h)

    -- groups 0 to 3 of an index, when the last of its packets is done
    pub index-records : (p : ℕ) → p < 12 → p % 4 ≡ 3 → Going s z p (z.n + 1) work full reds blues → Records z (coefs s) (colour_in p) 0 0 (z.n + 1) work
    index-records p a b g = record { bases = g.whole base (omega (arith, b)) a; details = each }
      where
        last : group_in p ≡ detail l3
        last = rw (lt-ltb p 12 a, b)

        each : (l : Level) → Stood z (coefs s) (detail l) (colour_in p) (group_at z 0 (detail l)) 0 (z.n + 1) work
        each l1 = g.whole (detail l1) (omega (arith, b)) a
        each l2 = g.whole (detail l2) (omega (arith, b)) a
        each l3 = subst (λ (k : Group). Stood z (coefs s) k (colour_in p) (group_at z 0 k) 0 (z.n + 1) work) last g.begun

  -- ---- the ends of packets 3, 7, 11 and 12
  module _ (m : Measured s z) where
    -- red and blue, as the levels give them
    red-is : flat r (z.w / 2) (outcome wrapping z.guarded z.n z.w red (coefs s)) ≡ decoded_plane s red
    unfolding planes
    red-is = (λ j. flat (plane_rows (m.guard j) (m.tall j)) (m.wide j / 2) (outcome wrapping (m.guard j) (m.tall j) (m.wide j) red (coefs s)))

    blue-is : flat r (z.w / 2) (outcome wrapping z.guarded z.n z.w blue (coefs s)) ≡ decoded_plane s blue
    unfolding planes
    blue-is = (λ j. flat (plane_rows (m.guard j) (m.tall j)) (m.wide j / 2) (outcome wrapping (m.guard j) (m.tall j) (m.wide j) blue (coefs s)))

    module _ (work after full full' reds blues : List ℤ) where
      pub averages-end : Averaged z (coefs s) green 0 (averages_at z) work after → Going s z 4 0 after full' reds blues
      averages-end a = record {
        whole = λ k b _. absurd (omega (arith, b));
        begun = λ t _ b. absurd (omega (arith, b));
        averages = λ _. a.outcomes;
        red-done = λ h. absurd (omega (arith, h));
        blue-done = λ h. absurd (omega (arith, h));
        green-done = λ h. absurd (omega (arith, h));
      }

      -- levels 1 and 2 of red and blue leave the averages as they are
      lowered-kept : (i : Colour) → Lowered z (coefs s) i 0 work after → Outcomes z (coefs s) green (averages_at z) 0 r work → Outcomes z (coefs s) green (averages_at z) 0 r after
      lowered-kept i l = averages-kept work after (λ a k p _. l.beside a k (inr (omega (arith, p))))

      pub red-end : Going s z 7 (z.n + 1) work full reds blues → (reds' : List ℤ) → reds' ≡ flat r (z.w / 2) (outcome wrapping z.guarded z.n z.w red (coefs s)) → Lowered z (coefs s) red 0 work after → Going s z 8 0 after full' reds' blues
      red-end g reds' e l = record {
        whole = λ k b _. absurd (omega (arith, b));
        begun = λ t _ b. absurd (omega (arith, b));
        averages = λ _. lowered-kept red l (g.averages (omega arith));
        red-done = λ _. e ∙ red-is;
        blue-done = λ h. absurd (omega (arith, h));
        green-done = λ h. absurd (omega (arith, h));
      }

      pub blue-end : Going s z 11 (z.n + 1) work full reds blues → (blues' : List ℤ) → blues' ≡ flat r (z.w / 2) (outcome wrapping z.guarded z.n z.w blue (coefs s)) → Lowered z (coefs s) blue 0 work after → Going s z 12 0 after full' reds blues'
      blue-end g blues' e l = record {
        whole = λ k b _. absurd (omega (arith, b));
        begun = λ t _ b. absurd (omega (arith, b));
        averages = λ _. lowered-kept blue l (g.averages (omega arith));
        red-done = λ _. g.red-done (omega arith);
        blue-done = λ _. e ∙ blue-is;
        green-done = λ h. absurd (omega (arith, h));
      }

    -- ---- the final green
    -- the details that are used, of group 4's records
    abbrev used : Plane
    used y = coefs s final green 0 (chosen z.guarded y)

    eight : (x : ℕ) → (x / 8 * 1 + 0) * 8 + x % 8 ≡ x
    eight x = omega arith

    module _ (slots : z.slots ≡ z.n + 1) (work full reds blues : List ℤ) (g : Going s z 12 (z.n + 1) work full reds blues) where
      detail-line : (y : ℕ) → y < r → part work (0 + chosen z.guarded y % (z.slots * 8) * (z.w / 2)) (z.w / 2) ≡ line (z.w / 2) used y
      unfolding stood
      detail-line y b =
          let x = chosen z.guarded y in
          let k = chosen-in z.guarded z.n fits.0.tall y b in
          let place : 0 + x % (z.slots * 8) * (z.w / 2) ≡ row_in z.w z.slots (group_at z 0 final) final 0 x =
          ap (λ (j : ℕ). 0 + j * (z.w / 2)) (sym (eight (x % (z.slots * 8)))) ∙ sym (place_is 0 8 1 (z.w / 2) 0 (x % (z.slots * 8))) in
          ap (λ (a : ℕ). part work a (z.w / 2)) place
          ∙ stood-row z.w z.slots (group_at z 0 final) final fits.1.some (stood z.guarded z.n (coefs s) final green) work 0 x (omega arith) (g.begun (x / 8) (omega arith) (omega (arith, k)))

      pub near-green : NearGreen z.guarded z.w z.n z.slots (averages_at z) 0 0 r (outcome wrapping z.guarded z.n z.w green (coefs s)) used work
      near-green = record {
        averages = λ y _ _ b. g.averages (omega arith) y (omega arith) b;
        details = λ y _ _ b. detail-line y b;
      }

      green-is : rows r (λ k. line z.w (both_greens wrapping r (z.w / 2) (outcome wrapping z.guarded z.n z.w green (coefs s)) used) (0 + k)) ≡ decoded_plane s green
      unfolding planes
      green-is =
          rows_same r _ (line z.w (both_greens wrapping r (z.w / 2) (outcome wrapping z.guarded z.n z.w green (coefs s)) used)) (λ k _. ap (line z.w (both_greens wrapping r (z.w / 2) (outcome wrapping z.guarded z.n z.w green (coefs s)) used)) (zero-add k))
          ∙ (λ j. flat (plane_rows (m.guard j) (m.tall j)) (m.wide j) (both_greens wrapping (plane_rows (m.guard j) (m.tall j)) (m.wide j / 2) (outcome wrapping (m.guard j) (m.tall j) (m.wide j) green (coefs s)) (λ y. coefs s final green 0 (chosen (m.guard j) y))))

      pub green-end : (after full' : List ℤ) → SameBelow (passing_at z) after work → full' ≡ rows r (λ k. line z.w (both_greens wrapping r (z.w / 2) (outcome wrapping z.guarded z.n z.w green (coefs s)) used) (0 + k)) → Going s z 13 0 after full' reds blues
      green-end after full' same e = record {
        whole = λ k _ b. absurd (omega (arith, b));
        begun = λ t _ b. absurd (omega (arith, b));
        averages = λ _. averages-kept work after (λ a k _ q. same a k q) (g.averages (omega arith));
        red-done = λ _. g.red-done (omega arith);
        blue-done = λ _. g.blue-done (omega arith);
        green-done = λ _. e ∙ green-is;
      }
