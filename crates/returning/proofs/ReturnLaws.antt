-- The three bands of a level, one after the other, are what recovery gives back. Assumes nothing.
use Rattle.std.proofs.Common.{◌≡◌, sym, subst, ◌∙◌, List, ℕ, ◌+◌, ◌*◌, ◌^◌, ◌<◌, arith, ℤ, length}
use Rattle.lists.specs.Lists.{Apart, part}
use Rattle.format.specs.Lifting.{Plane}
use Rattle.format.specs.Sizes.{Level, detail, columns}
use Rattle.format.specs.Table.{height, highs, hl, lh, hh, source, is_edge}
use Rattle.format.specs.Table as table
use Rattle.format.specs.Refusals.{◌▷◌}
use Rattle.format.proofs.TableLaws.{straight-hl, straight-lh}
use Rattle.passes.specs.declared.Band as code-band
use Rattle.passes.specs.declared.Level as code
use Rattle.passes.specs.declared.Plan.{Plan}
use Rattle.passes.specs.Plan.{line}
use Rattle.passes.specs.Level.{band_at, Whole}
use Rattle.levels.specs.Placed.{Short, PlacedBy}
use Rattle.levels.specs.Block.{group_at}
use Rattle.levels.proofs.Heights.{height-pos, heights, row_count, few-rows}
use Rattle.returning.specs.declared.Edges.{Edges}
use Rattle.returning.specs.declared.Undone.{Undone}
use Rattle.returning.specs.Return.{edge_row_at, Movable, Returnable, no_edges, hh_laid, lh_laid, hl_laid, level_refused, AllReturnable, Held, packet_size, Numbers, Clean, rows_of, Beside, Given, bands_back, bands_fault, BandsReturned}
use Rattle.returning.proofs.EdgeLaws.{none-edge}
use Rattle.returning.proofs.PacketLaws.{clean-part}
use Rattle.returning.proofs.BandLaws.{band-movable, laid-length, laid_beside, laid-refused, laid-numbers}

module _ (z : Plan) (start : ℕ) (l : Level) (r : code.Level) (u : Undone) (work : List ℤ) (held : Held z start (length work)) (placed : PlacedBy z start l r) (clean : Beside z start l u (length work)) where
  abbrev cols : ℕ
  cols = columns z.w (detail l)

  -- the level by document 01's sizes
  abbrev level : code.Level
  level = record { h = height z.guarded z.n l; c = cols; ll = r.ll; hl = r.hl; lh = r.lh; hh = r.hh }

  abbrev high : ℕ
  high = rows_of z l hh

  by_size : r ≡ level
  by_size = λ i. record { h = placed.rows i; c = placed.cols i; ll = r.ll; hl = r.hl; lh = r.lh; hh = r.hh }

  -- where rows of hh, of lh and of hl stand, nothing goes
  hh-clean : (y : ℕ) → y < high → Clean z start (detail l) (length work) (u.high + cols + y * u.stride) cols
  hh-clean y b = clean-part z start (detail l) (length work) (u.high + y * u.stride) (2 * cols) (u.high + cols + y * u.stride) cols (omega arith) (omega arith) (clean.highs y b)

  lh-clean : (y : ℕ) → y < high → Clean z start (detail l) (length work) (u.high + y * u.stride) cols
  lh-clean y b = clean-part z start (detail l) (length work) (u.high + y * u.stride) (2 * cols) (u.high + y * u.stride) cols (omega arith) (omega arith) (clean.highs y b)

  hl-clean : (y : ℕ) → y < rows_of z l hl → Clean z start (detail l) (length work) (u.low + cols + y * u.stride) cols
  hl-clean y b = clean-part z start (detail l) (length work) (u.low + y * u.stride) (2 * cols) (u.low + cols + y * u.stride) cols (omega arith) (omega arith) (clean.lows y b)

  -- ---- what the code asks for
  returnable : (d : code-band.Band) (from count : ℕ) → Whole d → Short d → count < 2 ^ 40
      → Movable (band_at d cols) cols from u.stride count (length work) → Returnable d cols from u.stride count (length work)
  returnable d from count whole short few move = record {
    cols = rw (← placed.cols) placed.placeable.columns;
    whole = whole;
    counted = λ y b. row_count d y short (omega (arith, b, few));
    movable = move;
  }

  asked : length work < 2 ^ 64 → AllReturnable level high u (length work)
  asked short =
      let g = z.guarded in
      let tall = held.fits.0.tall in
      let few = few-rows g z.n l held.fits.0.few in
      let pos = height-pos g z.n tall l in
      record {
        high = omega (arith, (hh-clean 0 (omega (arith, pos, (heights g z.n tall l).0))).0);
        low = omega (arith, (hl-clean 0 pos).0);
        hh = returnable r.hh (u.high + cols) high placed.placeable.hh placed.shorts.hh (omega (arith, few.1))
            (band-movable z start l work held hh r.hh placed.hhs (u.high + cols) u.stride hh-clean);
        lh = returnable r.lh u.high high placed.placeable.lh placed.shorts.lh (omega (arith, few.1))
            (band-movable z start l work held lh r.lh placed.lhs u.high u.stride lh-clean);
        hl = returnable r.hl (u.low + cols) (rows_of z l hl) placed.placeable.hl placed.shorts.hl (omega (arith, few.0))
            (band-movable z start l work held hl r.hl placed.hls (u.low + cols) u.stride hl-clean);
      }

  pub level-asks : length work < 2 ^ 64 → (m : ℕ) → m ≡ high → AllReturnable r m u (length work)
  level-asks short m e =
      subst (λ (q : code.Level). AllReturnable q m u (length work)) (sym by_size) (subst (λ (k : ℕ). AllReturnable level k u (length work)) (sym e) (asked short))

  -- ---- what it gives
  module _ (e : Edges) (edge : (y : ℕ) → y < high → edge_row_at e y ≡ is_edge (source z.guarded l (height z.guarded z.n l) hh y)) where
    abbrev one : List ℤ
    one = hh_laid level high u e work

    abbrev two : List ℤ
    two = lh_laid level high u e work

    abbrev three : List ℤ
    three = hl_laid level high u e work

    lh-edge : (y : ℕ) → y < high → edge_row_at (no_edges high e) y ≡ is_edge (source z.guarded l (height z.guarded z.n l) lh y)
    lh-edge y b = none-edge high y _ b (straight-lh z.guarded l (height z.guarded z.n l) y)

    hl-edge : (y : ℕ) → y < rows_of z l hl → edge_row_at (no_edges (rows_of z l hl) e) y ≡ is_edge (source z.guarded l (height z.guarded z.n l) hl y)
    hl-edge y b = none-edge (rows_of z l hl) y _ b (straight-hl z.guarded l (height z.guarded z.n l) y)

    long-one : length one ≡ length work
    long-one = laid-length z start l work held hh r.hh placed.hhs (u.high + cols) u.stride e

    held_one : Held z start (length one)
    held_one = rw long-one held

    long-two : length two ≡ length work
    long-two = laid-length z start l one held_one lh r.lh placed.lhs u.high u.stride (no_edges high e) ∙ long-one

    held_two : Held z start (length two)
    held_two = rw long-two held

    beside-one : (s m : ℕ) → Apart s m (group_at z start (detail l)) (packet_size z (detail l)) → part one s m ≡ part work s m
    beside-one = laid_beside z start l work held hh r.hh placed.hhs (u.high + cols) u.stride e

    beside_two : (s m : ℕ) → Apart s m (group_at z start (detail l)) (packet_size z (detail l)) → part two s m ≡ part work s m
    beside_two s m o = laid_beside z start l one held_one lh r.lh placed.lhs u.high u.stride (no_edges high e) s m o ∙ beside-one s m o

    module _ (b : table.Band → Plane) (given : Given z l u b work) where
      lh-given : (y : ℕ) → y < high → part one (u.high + y * u.stride) cols ≡ line cols (b lh) y
      lh-given y c = beside-one (u.high + y * u.stride) cols (lh-clean y c).1 ∙ given lh y c

      hl-given : (y : ℕ) → y < rows_of z l hl → part two (u.low + cols + y * u.stride) cols ≡ line cols (b hl) y
      hl-given y c = beside_two (u.low + cols + y * u.stride) cols (hl-clean y c).1 ∙ given hl y c

      all-refused : level_refused level high u e work ≡ bands_fault z.guarded z.n z.w l e.odd b
      all-refused =
          let x = laid-refused z start l work held hh r.hh placed.hhs (u.high + cols) u.stride e edge (b hh) (given hh) in
          let y = laid-refused z start l one held_one lh r.lh placed.lhs u.high u.stride (no_edges high e) lh-edge (b lh) lh-given in
          let w = laid-refused z start l two held_two hl r.hl placed.hls (u.low + cols) u.stride (no_edges (rows_of z l hl) e) hl-edge (b hl) hl-given in
          λ i. x i ▷ (y i ▷ w i)

      all-numbers : (rest : ℕ → Plane) → Numbers z start (detail l) rest work → Numbers z start (detail l) (bands_back z.guarded z.n l e.odd b rest) three
      all-numbers rest n =
          let x = laid-numbers z start l work held hh r.hh placed.hhs (u.high + cols) u.stride e edge (b hh) (given hh) rest n in
          let y = laid-numbers z start l one held_one lh r.lh placed.lhs u.high u.stride (no_edges high e) lh-edge (b lh) lh-given _ x in
          laid-numbers z start l two held_two hl r.hl placed.hls (u.low + cols) u.stride (no_edges (rows_of z l hl) e) hl-edge (b hl) hl-given _ y

    all-returned : BandsReturned z start l e.odd u work three (level_refused level high u e work)
    all-returned = record {
      numbers = λ b rest given n. all-numbers b given rest n;
      refusal = all-refused;
      beside = λ s m o. laid_beside z start l two held_two hl r.hl placed.hls (u.low + cols) u.stride (no_edges (rows_of z l hl) e) s m o ∙ beside_two s m o;
      same = laid-length z start l two held_two hl r.hl placed.hls (u.low + cols) u.stride (no_edges (rows_of z l hl) e) ∙ long-two;
    }

    pub level-gives : (m : ℕ) → m ≡ high → (after : List ℤ) (f : ℕ) → after ≡ hl_laid r m u e work → f ≡ level_refused r m u e work
        → BandsReturned z start l e.odd u work after f
    level-gives m k after f p q =
        let x : after ≡ three = p ∙ (λ i. hl_laid (by_size i) (k i) u e work) in
        let y : f ≡ level_refused level high u e work = q ∙ (λ i. level_refused (by_size i) (k i) u e work) in
        rw (x, y) all-returned
