-- Green's details in group 4's packet, which takes the scratch. Assumes nothing.
use Rattle.std.proofs.Common.{◌≡◌, refl, sym, ap, ◌∙◌, subst, Bool, true, false, cond, List, inl, inr, ⊎_elim, ℕ, ◌+◌, ◌*◌, ◌/◌, ◌≤◌, ◌<◌, mul-le-mul_right, arith, ltb, ℤ, pos, length, ltb-true, ltb-false}
use mathlib.Core.Path.{transport}
use Rattle.std.proofs.lemmas.List.{length-replicate}
use Rattle.wrap32.proofs.Laws.{of-cond}
use Rattle.lists.specs.Lists.{Apart, part, put_at, tab, laid}
use Rattle.lists.proofs.Tab.{length-tab, length-put, get_or-tab}
use Rattle.lists.proofs.Part.{part-put-in, part-put-out}
use Rattle.lists.proofs.Laid.{length-laid, laid_in, laid_out, laid_same}
use Rattle.lifting.specs.Lift.{at}
use Rattle.format.specs.Coefficients.{zeros}
use Rattle.format.specs.Sizes.{Colour, green, final, plane_rows}
use Rattle.format.specs.Lifting.{Plane}
use Rattle.format.specs.Table.{S, chosen}
use Rattle.format.specs.Refusals.{each}
use Rattle.format.specs.Recovery.{read_plane, d_of, seek, picked_back}
use Rattle.format.specs.Writing.{too_large, places}
use Rattle.format.proofs.TableLaws.{chosen-in}
use Rattle.passes.specs.declared.Plan.{Plan}
use Rattle.passes.specs.Plan.{unit_of, Fits}
use Rattle.levels.specs.Block.{group_at}
use Rattle.undoing.specs.Down.{detail_at}
use Rattle.undoing.proofs.RowLaws.{row_before}
use Rattle.returning.specs.Return.{Held, packet_size, Numbers}
use Rattle.format.proofs.TurnLaws.{each_same}
use Rattle.returning.proofs.Recovered.{nothing, numbers-none, details-numbers, details-picked}
use Rattle.recovery.specs.Recovered.{scratch_at, scratch_size, Front, DetailsBack}
use Rattle.recovery.proofs.IndexLaws.{packet-takes}
use Rattle.recovery.proofs.PlaneLaws.{halves}

-- ---- the details' rows with a gap
pub rises : (e gap j i : ℕ) → j < i → detail_at e gap j < detail_at e gap i
rises e gap j i b =
    of-cond (λ (q : ℕ). q < detail_at e gap i) (ltb j e) j (j + gap)
    (λ _. of-cond (λ (q : ℕ). j < q) (ltb i e) i (i + gap) (λ _. b) (λ _. omega arith))
    (λ s. of-cond (λ (q : ℕ). j + gap < q) (ltb i e) i (i + gap) (λ t. absurd (omega (arith, ltb-true i e t, ltb-false j e s))) (λ _. omega arith))

abbrev pub kept : Bool → ℕ
kept g = cond g 2 4

abbrev pub skipped : Bool → ℕ
skipped g = cond g 6 4

pub chosen_is : (g : Bool) (y : ℕ) → detail_at (kept g) (skipped g) y ≡ chosen g y
unfolding chosen
chosen_is false y = refl
chosen_is true y = refl

-- ---- green's details in group 4's packet
module _ (z : Plan) (n : ℕ) (k : Front z 0 n) (fits : Fits z (scratch_at z)) (plane before mid after : List ℤ) (long : length before ≡ n) (clear : mid ≡ put_at before (scratch_at z) (zeros (64 * unit_of z))) where
  abbrev half : ℕ
  half = z.w / 2

  abbrev tall : ℕ
  tall = plane_rows z.guarded z.n

  abbrev detail_row : ℕ → List ℤ
  detail_row y = tab half (d_of tall (read_plane (2 * half) plane) y)

  abbrev row_place : ℕ → ℕ
  row_place y = scratch_at z + detail_at (kept z.guarded) (skipped z.guarded) y * half

  -- all rows stand in the scratch
  pub row_in : (y : ℕ) → y < tall → row_place y + half ≤ scratch_at z + scratch_size z
  row_in y b =
      let m = mul-le-mul_right half (chosen-in z.guarded z.n k.fits.0.tall y b) in
      let h : half ≡ 8 * (z.w / 16) = omega (arith, k.fits.0.whole) in
      let e : (z.n + 1) * 8 * half ≡ 64 * unit_of z = ap (λ (q : ℕ). (z.n + 1) * 8 * q) h ∙ rw k.all (omega arith) in
      rw (chosen_is z.guarded y) (omega (arith, m, e))

  many : length (zeros (64 * unit_of z)) ≡ 64 * unit_of z
  many = length-replicate (64 * unit_of z) (pos 0)

  room : scratch_at z + length (zeros (64 * unit_of z)) ≤ length before
  room = omega (arith, many, long, k.room)

  pub cleared-long : length mid ≡ length before
  cleared-long = ap length clear ∙ length-put before (scratch_at z) (zeros (64 * unit_of z)) room

  held : Held z (scratch_at z) (length mid)
  held = record { fits = fits; all = k.all; room = omega (arith, cleared-long, long, k.room) }

  module _ (is : after ≡ laid row_place detail_row mid tall) where
    stands : (y : ℕ) → y < tall → part after (row_place y) half ≡ detail_row y
    stands y b =
        rw is
        (laid_in row_place detail_row mid half tall (λ y. length-tab half _) (λ y q. omega (arith, row_in y q, cleared-long, long, k.room)) y tall b (omega arith)
        (λ i p q. inl (row_before (scratch_at z) half half _ _ (omega arith) (rises _ _ y i p))))

    after-long : length after ≡ length before
    after-long = ap length is ∙ length-laid row_place detail_row mid half tall (λ y. length-tab half _) (λ y q. omega (arith, row_in y q, cleared-long, long, k.room)) tall (omega arith) ∙ cleared-long

    -- beside the scratch nothing has changed
    outside : (s m : ℕ) → Apart s m (scratch_at z) (scratch_size z) → part after s m ≡ part before s m
    outside s m q =
        rw is
        (laid_out row_place detail_row mid half tall (λ y. length-tab half _) (λ y q. omega (arith, row_in y q, cleared-long, long, k.room)) s m tall (omega arith)
        (λ i b. ⊎_elim (λ (p : s + m ≤ scratch_at z). inl (omega arith)) (λ (p : scratch_at z + scratch_size z ≤ s). inr (omega (arith, row_in i b))) q)
        ∙ rw clear (part-put-out before (scratch_at z) (zeros (64 * unit_of z)) room s m (64 * unit_of z) many q))

    -- the packet holds them, over zeros
    zero : Numbers z (scratch_at z) final nothing mid
    zero =
        let e : 64 * unit_of z ≡ packet_size z final = sym (packet-takes z final k.fits.0.whole k.all) in
        let f : scratch_at z ≡ group_at z (scratch_at z) final = omega arith in
        let g : part mid (scratch_at z) (64 * unit_of z) ≡ zeros (64 * unit_of z) = rw clear (subst (λ (c : ℕ). part (put_at before (scratch_at z) (zeros (64 * unit_of z))) (scratch_at z) c ≡ zeros (64 * unit_of z)) many (part-put-in before (scratch_at z) (zeros (64 * unit_of z)) room)) in
        numbers-none z (scratch_at z) final mid (transport (λ i. part mid (f i) (e i) ≡ zeros (e i)) g)

    as-chosen : after ≡ laid (λ y. scratch_at z + chosen z.guarded y * half) (λ y. tab half (d_of tall (read_plane z.w plane) y)) mid tall
    as-chosen =
        is
        ∙ laid_same row_place (λ y. scratch_at z + chosen z.guarded y * half) detail_row (λ y. tab half (d_of tall (read_plane z.w plane) y)) mid tall
        (λ y _. ap (λ (q : ℕ). scratch_at z + q * half) (chosen_is z.guarded y))
        (λ y _. ap (λ (w : ℕ). tab half (d_of tall (read_plane w plane) y)) (halves z 0 n k))

    numbers : (p : Colour → List ℤ) → p green ≡ plane → Numbers z (scratch_at z) final (picked_back z.guarded z.n z.w p green) after
    numbers p e =
        let picked : List ℤ → ℕ → Plane = λ l c r x. seek false (λ y. S 0 (chosen z.guarded y)) (d_of tall (read_plane z.w l)) c r x tall (pos 0) in
        let laid-in-it = details-numbers z (scratch_at z) mid held (d_of tall (read_plane z.w plane)) nothing zero in
        let here = subst (λ (l : List ℤ). Numbers z (scratch_at z) final (picked plane) l) (sym as-chosen) laid-in-it in
        let lent = subst (λ (l : List ℤ). Numbers z (scratch_at z) final (picked l) after) (sym e) here in
        subst (λ (v : ℕ → Plane). Numbers z (scratch_at z) final v after) (details-picked z.guarded z.n z.w p) lent

    refused : each (λ y. each (λ x. too_large (at (part after (row_place y) half) x)) half) tall ≡ places tall half (λ y x. too_large (d_of tall (read_plane z.w plane) y x))
    refused =
        each_same _ _ tall (λ y b. each_same _ _ half (λ x q.
        ap too_large (ap (λ (l : List ℤ). at l x) (stands y b) ∙ get_or-tab half (d_of tall (read_plane (2 * half) plane) y) x (pos 0) q ∙ ap (λ (w : ℕ). d_of tall (read_plane w plane) y x) (halves z 0 n k))))

    pub details-back : (r : ℕ) → r ≡ each (λ y. each (λ x. too_large (at (part after (row_place y) half) x)) half) tall → DetailsBack z plane before after r
    details-back r e = record { numbers = numbers; refusal = e ∙ refused; beside = outside; long = after-long }
