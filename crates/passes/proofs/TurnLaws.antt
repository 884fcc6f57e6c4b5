-- What a pass's ring holds after a low result and after a high one. Assumes nothing.
use Rattle.std.proofs.Common.{◌≡◌, Bool, true, false, cond, List, ℕ, ◌+◌, ◌-◌, ◌*◌, ◌≤◌, ◌<◌, min, ℤ, length, refl, sym, ◌∙◌, inl, arith}
use Rattle.lists.specs.Lists.{put_at, SameBelow}
use Rattle.lists.proofs.Laid.{length-laid, laid_out}
use Rattle.ring.specs.declared.Rows.{Rows}
use Rattle.ring.specs.Ring.{low_pair, high_pair, end_pair}
use Rattle.passes.specs.declared.Level.{Level}
use Rattle.passes.specs.declared.pass.Pass.{Pass}
use Rattle.passes.specs.declared.Turn.{Turn}
use Rattle.passes.specs.Level.{TwoSlots, Stands, LowsAt, HighsAt, Holds, lo_l, hi_l, passed_two, pair_at, pairs_in}
use Rattle.passes.specs.Turn.{low_beside, Begun, Ready, pair_out}
use Rattle.passes.proofs.PlaceLaws.{pair-in}
use Rattle.passes.proofs.PassLaws.{even-put, odd-put, odd-keeps, even-same, two-same, two-rows, length_two}
use Rattle.passes.proofs.LeadLaws.{lead-low-put, lead-high-put, lead-first-put, end-keeps, lead-low-same, lead-two-same, lead-rows, length-lead}

pub length-passed : (leads : Bool) (g : Level) (m : ℕ) (w : List ℤ) (y : ℕ) → length (passed_two leads g m w y) ≡ 4 * g.c
length-passed true g m w y = length-lead g m w y
length-passed false g m w y = length_two g w y

-- a write into the ring l left l'
module _ (g : Level) (m : ℕ) (w l l' : List ℤ) where
  pub begun-put :
      (leads : Bool) (p r : Rows) (y a : ℕ) → g.h ≤ m → LowsAt g (low_beside leads g.h y) r → HighsAt g (y - 1) p → HighsAt g (min y (m - 1)) r
      → a + 2 * g.c ≤ length l → l' ≡ put_at l a (low_pair g.c w p r) → Begun leads g m w y l' a
  begun-put true p r y a h u v x room e = λ t. lead-low-put g m w l l' p r (y - 1) (min y (m - 1)) a (omega (arith, t)) u v x room e
  begun-put false p r y a h u v x room e = λ t.
      let j : min y (g.h - 1) ≡ y = omega (arith, t) in
      let k : min y (m - 1) ≡ y = omega (arith, t, h) in
      even-put g w l l' p r y (y - 1) a refl (rw j at u) v (rw k at x) room e

  pub begun_kept : (leads : Bool) (y s : ℕ) → ((u v : List ℤ) → Holds l s g.c u v → Holds l' s g.c u v) → Begun leads g m w y l s → Begun leads g m w y l' s
  begun_kept true y s k b = λ t. k _ _ (b t)
  begun_kept false y s k b = λ t. k _ _ (b t)

  -- the pair of a turn is done, and the next one's low result still stands
  abbrev pub Done : Bool → ℕ → ℕ → ℕ → Type 0
  Done leads y a b = (pair_out leads g.c l' a b ≡ passed_two leads g m w y) × Begun leads g m w (y + 1) l' b

  module _ (r : Rows) (y a b : ℕ) (t : y < g.h) (x : HighsAt g y r) (o : TwoSlots g.c (length l) a b) where
    pub lead-first : y ≤ 0 → Begun true g m w (y + 1) l b → l' ≡ put_at l (4 * g.c) (end_pair g.c w r l b) → Done true y a b
    lead-first i q e =
        let s : y + 1 - 1 ≡ y = omega arith in
        let d : Holds l b g.c (lo_l g m w y) (hi_l g m w y) = rw s at (q (omega arith)) in
        let z = lead-first-put g m w l l' r y b (omega (arith, i)) x o.0 d e in
        let k = end-keeps g m w l l' r b b _ _ o.0 e o.2 d in
        (lead-rows g m w l' y (4 * g.c) b z k, λ _. rw s k)

    pub lead-mid : 1 ≤ y → Begun true g m w y l a → Begun true g m w (y + 1) l b → l' ≡ put_at l (4 * g.c) (high_pair g.c w r l a b) → Done true y a b
    lead-mid i p q e =
        let s : y + 1 - 1 ≡ y = omega arith in
        let d : Holds l b g.c (lo_l g m w y) (hi_l g m w y) = rw s at (q (omega arith)) in
        let z = lead-high-put g m w l l' r y a b i t x o.0 (p i) d e in
        let k = odd-keeps g w l l' r a b b _ _ o.0 e o.2 d in
        (lead-rows g m w l' y (4 * g.c) b z k, λ _. rw s k)

    pub plain-mid : y + 1 < g.h → Begun false g m w y l a → Begun false g m w (y + 1) l b → l' ≡ put_at l (4 * g.c) (high_pair g.c w r l a b) → Done false y a b
    plain-mid i p q e =
        let z = odd-put g w l l' r y (y + 1) a b (omega (arith, i)) x o.0 (p t) (q i) e in
        (two-rows g w l' y a (4 * g.c) (odd-keeps g w l l' r a b a _ _ o.0 e o.1 (p t)) z, λ _. odd-keeps g w l l' r a b b _ _ o.0 e o.2 (q i))

    pub plain-last : g.h ≤ y + 1 → Begun false g m w y l a → l' ≡ put_at l (4 * g.c) (high_pair g.c w r l a a) → Done false y a b
    plain-last i p e =
        let z = odd-put g w l l' r y y a a (omega (arith, i, t)) x o.0 (p t) (p t) e in
        (two-rows g w l' y a (4 * g.c) (odd-keeps g w l l' r a a a _ _ o.0 e o.1 (p t)) z, λ q. absurd (omega (arith, q, i)))

-- a pass may start before any pair
pub low_start : (leads : Bool) (y h : ℕ) → y < h → cond leads (y - 1) y < h
low_start true y h b = omega (arith, b)
low_start false y h b = b

-- ---- two lists that agree below k
module _ (g : Level) (n : ℕ) (m l : List ℤ) (k : ℕ) (same : SameBelow k m l) (most : g.h ≤ n) (z : Stands g n k) where
  fewer : Stands g g.h k
  fewer = record { lows = z.lows; highs = λ y b. z.highs y (omega (arith, b, most)); placeable = z.placeable }

  pub passed-same : (leads : Bool) (y : ℕ) → y < g.h → passed_two leads g n m y ≡ passed_two leads g n l y
  passed-same true y b = lead-two-same g n m l k same z y b (omega (arith, b, most))
  passed-same false y b = two-same g m l k same fewer y b

  begun-same : (leads : Bool) (y : ℕ) (ring : List ℤ) (a : ℕ) → y ≤ g.h → Begun leads g n l y ring a → Begun leads g n m y ring a
  begun-same true y ring a b f = λ t.
      let e = lead-low-same g n m l k same z (y - 1) (omega (arith, b, t)) (omega (arith, b, t, most)) in
      let h = f t in
      (h.0 ∙ sym e.0, h.1 ∙ sym e.1)
  begun-same false y ring a b f = λ t.
      let e = even-same g m l k same fewer y t in
      let h = f t in
      (h.0 ∙ sym e.0, h.1 ∙ sym e.1)

pub ready-same :
    (p : Pass) (m l ring : List ℤ) (t : Turn) (k : ℕ) → SameBelow k m l → p.g.h ≤ p.m → Stands p.g p.m k → t.y ≤ p.g.h
    → Ready p l ring t → Ready p m ring t
ready-same p m l ring t k same most z b r = record {
  slots = r.slots;
  highs = r.highs;
  begun = begun-same p.g p.m m l k same most z p.leads t.y ring t.a b r.begun;
}

-- ---- pairs laid into the work slice: what stands below them stays
module _ (leads : Bool) (g : Level) (m out pairs : ℕ) (work : List ℤ) (from : ℕ) (some : 1 ≤ pairs) (room : out + pairs * (4 * g.c) ≤ length work) where
  pub pair-room : (k : ℕ) → pair_at out pairs g.c (from + k) + 4 * g.c ≤ length work
  pair-room k = omega (arith, (pair-in out pairs g.c (from + k) some).1, room)

  pub pairs-length : (count : ℕ) → length (pairs_in leads g m out pairs work from count) ≡ length work
  pairs-length count =
      length-laid (λ (k : ℕ). pair_at out pairs g.c (from + k)) (λ (k : ℕ). passed_two leads g m work (from + k)) work (4 * g.c) count
      (λ k. length-passed leads g m work (from + k)) (λ k _. pair-room k) count (omega arith)

  pub pairs-same : (count : ℕ) → SameBelow out (pairs_in leads g m out pairs work from count) work
  pairs-same count s k b =
      laid_out (λ (j : ℕ). pair_at out pairs g.c (from + j)) (λ (j : ℕ). passed_two leads g m work (from + j)) work (4 * g.c) count
      (λ j. length-passed leads g m work (from + j)) (λ j _. pair-room j) s k count (omega arith)
      (λ j _. inl (omega (arith, b, (pair-in out pairs g.c (from + j) some).0)))
