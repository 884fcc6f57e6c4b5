-- All coefficients of a tile, index after index: what each leaves of the ones before. Assumes nothing.
use Rattle.std.proofs.Common.{◌≡◌, refl, ◌∙◌, subst, List, ◌⊎◌, inl, inr, ⊎_elim, ℕ, ◌+◌, ◌*◌, ◌/◌, ◌≤◌, mul-le-mul_right, arith, ℤ}
use Rattle.lists.specs.Lists.{Apart}
use Rattle.format.specs.Lifting.{Plane}
use Rattle.format.specs.Sizes.{Colour, green, red, blue, index, Level, l1, l2, l3, Group, base, detail, plane_rows}
use Rattle.format.specs.Refusals.{◌▷◌}
use Rattle.format.specs.Recovery.{read_plane, l_of, out_of, summed_back, lifted_back}
use Rattle.format.specs.Tile.{slice}
use Rattle.format.specs.Writing.{numbers_refusal}
use Rattle.passes.specs.declared.Plan.{Plan}
use Rattle.passes.specs.Plan.{unit_of}
use Rattle.levels.specs.Block.{group_at}
use Rattle.returning.specs.Return.{packet_size, Numbers}
use Rattle.recovery.specs.Recovered.{scratch_at, scratch_size, Back, ColourBack, DetailsBack, Room, Recovered}
use Rattle.recovery.proofs.IndexLaws.{units_at, units_in, packet-starts, packet-takes}

-- groups 0 to 3 lie in their block
in_block : (l : Level) → units_at (detail l) + units_in (detail l) ≤ 64
in_block l1 = omega arith
in_block l2 = omega arith
in_block l3 = omega arith

module _ (z : Plan) (n full pale dark : ℕ) (k : Room z n full pale dark) where
  -- a packet of a block is apart from what is apart from the block
  beside : (place q m : ℕ) (g : Group) → units_at g + units_in g ≤ 64 → (place + 64 * unit_of z ≤ q) ⊎ (q + m ≤ place) → Apart (group_at z place g) (packet_size z g) q m
  beside place q m g b =
      let x = mul-le-mul_right (unit_of z) b in
      ⊎_elim
      (λ (p : place + 64 * unit_of z ≤ q). inl (omega (arith, x, packet-starts z place g, packet-takes z g k.fits.0.whole k.all)))
      (λ (p : q + m ≤ place). inr (omega (arith, packet-starts z place g)))

  module _ (greens reds blues : List ℤ) (w1 w2 w3 w4 : List ℤ) (a b c d : ℕ) where
    abbrev p : Colour → List ℤ
    p = slice greens reds blues

    abbrev u : ℕ
    u = 64 * unit_of z

    module _ (first : Back z 0 green (l_of (plane_rows z.guarded z.n) (z.w / 2) (read_plane z.w greens)) w1 a) (second : ColourBack z u reds w1 w2 b) (third : ColourBack z (2 * u) blues w2 w3 c) (last : DetailsBack z greens w3 w4 d) where
      -- what stays
      keep-1 : (g : Group) → units_at g + units_in g ≤ 64 → (v : ℕ → Plane) → Numbers z 0 g v w1 → Numbers z 0 g v w4
      keep-1 g q v e =
          last.beside _ _ (beside 0 (scratch_at z) (scratch_size z) g q (inl (omega arith)))
          ∙ third.beside _ _ (beside 0 (2 * u) u g q (inl (omega arith))) (beside 0 (scratch_at z) (scratch_size z) g q (inl (omega arith)))
          ∙ second.beside _ _ (beside 0 u u g q (inl (omega arith))) (beside 0 (scratch_at z) (scratch_size z) g q (inl (omega arith)))
          ∙ e

      keep-2 : (g : Group) → units_at g + units_in g ≤ 64 → (v : ℕ → Plane) → Numbers z u g v w2 → Numbers z u g v w4
      keep-2 g q v e =
          last.beside _ _ (beside u (scratch_at z) (scratch_size z) g q (inl (omega arith)))
          ∙ third.beside _ _ (beside u (2 * u) u g q (inl (omega arith))) (beside u (scratch_at z) (scratch_size z) g q (inl (omega arith)))
          ∙ e

      keep-3 : (g : Group) → units_at g + units_in g ≤ 64 → (v : ℕ → Plane) → Numbers z (2 * u) g v w3 → Numbers z (2 * u) g v w4
      keep-3 g q v e = last.beside _ _ (beside (2 * u) (scratch_at z) (scratch_size z) g q (inl (omega arith))) ∙ e

      -- block i, where index i has it
      at-index : (i : Colour) (x : ℕ) (g : Group) (v : ℕ → Plane) → x ≡ index i * u → Numbers z x g v w4 → Numbers z (index i * u) g v w4
      at-index i x g v e = subst (λ (y : ℕ). Numbers z y g v w4) e

      steps-are : (i : Colour) → Numbers z (index i * u) base (summed_back z.guarded z.n z.w (out_of z.guarded z.n z.w p i)) w4
      unfolding out_of
      steps-are green = at-index green 0 base _ (omega arith) (keep-1 base (omega arith) _ first.steps)
      steps-are red = at-index red u base _ (omega arith) (keep-2 base (omega arith) _ (second.back red refl).steps)
      steps-are blue = at-index blue (2 * u) base _ (omega arith) (keep-3 base (omega arith) _ (third.back blue refl).steps)

      details-are : (i : Colour) (l : Level) → Numbers z (index i * u) (detail l) (lifted_back z.guarded z.n z.w l i (out_of z.guarded z.n z.w p i)) w4
      unfolding out_of
      details-are green l = at-index green 0 (detail l) _ (omega arith) (keep-1 (detail l) (in_block l) _ (first.details l))
      details-are red l = at-index red u (detail l) _ (omega arith) (keep-2 (detail l) (in_block l) _ ((second.back red refl).details l))
      details-are blue l = at-index blue (2 * u) (detail l) _ (omega arith) (keep-3 (detail l) (in_block l) _ ((third.back blue refl).details l))

      pub recovered : Recovered z p w4
      recovered = record { steps = steps-are; details = details-are; finals = last.numbers p refl }

      pub refused : (a ▷ b ▷ c ▷ d) ≡ numbers_refusal z.guarded z.n z.w p
      unfolding numbers_refusal out_of
      refused = λ i. first.refusal i ▷ (second.back red refl).refusal i ▷ (third.back blue refl).refusal i ▷ last.refusal i
