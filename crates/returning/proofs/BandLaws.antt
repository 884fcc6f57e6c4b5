-- A band's rows at their places in the packet are what recovery gives back. Assumes nothing.
use Rattle.std.proofs.Common.{◌≡◌, sym, ap, ◌∙◌, List, ℕ, ◌+◌, ◌*◌, ◌%◌, ◌≤◌, ◌<◌, mul-le-mul_right, mod-eq_of_lt, arith, ℤ, length}
use Rattle.lists.specs.Lists.{Apart, part}
use Rattle.lists.proofs.Tab.{length-tab, tab-same}
use Rattle.lists.proofs.Laid.{length-laid, laid_out, laid_same}
use Rattle.lifting.specs.Lift.{at}
use Rattle.format.specs.Lifting.{Plane}
use Rattle.format.specs.Sizes.{Level, l1, l2, l3, detail, multiplier, components, columns}
use Rattle.format.specs.Table.{height, Source, source, is_edge, from_component, from_row}
use Rattle.format.specs.Table as table
use Rattle.format.specs.Recovery.{back, seek}
use Rattle.format.specs.Writing.{band_refusal, places}
use Rattle.format.specs.Numbers.{row_of, packet_rows}
use Rattle.format.proofs.NumberLaws.{place_of, line_back, laid-seek}
use Rattle.format.proofs.TableLaws.{source_in as source-in}
use Rattle.passes.specs.declared.Band as code-band
use Rattle.passes.specs.declared.Plan.{Plan}
use Rattle.passes.specs.Plan.{line, place}
use Rattle.passes.specs.Level.{band_at}
use Rattle.passes.proofs.PlaceLaws.{place_is}
use Rattle.levels.specs.Placed.{source_in}
use Rattle.levels.specs.Block.{group_at}
use Rattle.returning.specs.declared.Edges.{Edges}
use Rattle.returning.specs.Return.{edge_row_at, some_source, Movable, band_laid, band_refused, Held, packet_size, Numbers, Clean, rows_of}
use Rattle.format.proofs.TurnLaws.{each_same}
use Rattle.returning.proofs.EdgeLaws.{back_some, refusal-some}
use Rattle.returning.proofs.PacketLaws.{packet-flat, packet-room, apart-within, at-line}

-- a row of three components lies in its packet
row_low : (l : Level) (n c r : ℕ) → r < (n + 1) * multiplier (detail l) → c < 3 → row_of (detail l) c r < packet_rows (detail l) (n + 1)
row_low l1 n c r a b = omega arith
row_low l2 n c r a b = omega arith
row_low l3 n c r a b = omega arith

module _ (z : Plan) (start : ℕ) (l : Level) (work : List ℤ) (held : Held z start (length work)) (k : table.Band) where
  abbrev cols : ℕ
  cols = columns z.w (detail l)

  abbrev first : ℕ
  first = group_at z start (detail l)

  abbrev src : ℕ → Source
  src y = source z.guarded l (height z.guarded z.n l) k y

  abbrev count : ℕ
  count = rows_of z l k

  abbrev order : ℕ → ℕ
  order y = row_of (detail l) (from_component (src y)) (from_row (src y))

  few : (y : ℕ) → y < count → from_component (src y) < components (detail l)
  few y b = (source-in z.guarded z.n held.fits.0.tall l k y b).1

  low : (y : ℕ) → y < count → order y < packet_rows (detail l) (z.n + 1)
  low y b = let i = source-in z.guarded z.n held.fits.0.tall l k y b in row_low l z.n (from_component (src y)) (from_row (src y)) i.0 i.1

  -- no ring wraps
  placed_at : (y : ℕ) → y < count → source_in z.guarded z.w z.n z.slots start l k y ≡ first + order y * cols
  placed_at y b =
      let i = (source-in z.guarded z.n held.fits.0.tall l k y b).0 in
      let m : from_row (src y) % (z.slots * multiplier (detail l)) ≡ from_row (src y) = rw held.all (mod-eq_of_lt i) in
      ap (λ (r : ℕ). place first (multiplier (detail l)) 3 cols (from_component (src y)) r) m
      ∙ place_is first (multiplier (detail l)) 3 cols (from_component (src y)) (from_row (src y))

  row_room : (y : ℕ) → y < count → first + order y * cols + cols ≤ first + packet_size z (detail l)
  row_room y b = let m = mul-le-mul_right cols (low y b) in omega (arith, m)

  module _ (d : code-band.Band) (stands : (y : ℕ) → y < count → band_at d cols y ≡ source_in z.guarded z.w z.n z.slots start l k y) (from t : ℕ) where
    at_row : (y : ℕ) → y < count → band_at d cols y ≡ first + order y * cols
    at_row y b = stands y b ∙ placed_at y b

    target : (y : ℕ) → y < count → band_at d cols y + cols ≤ length work
    target y b = omega (arith, at_row y b, row_room y b, packet-room z start (length work) held (detail l))

    pub band-movable : ((y : ℕ) → y < count → Clean z start (detail l) (length work) (from + y * t) cols) → Movable (band_at d cols) cols from t count (length work)
    band-movable clean = record {
      target = target;
      stands = λ y b. (clean y b).0;
      apart = λ y j b q. apart-within _ _ _ _ _ _ (omega (arith, at_row j q)) (omega (arith, at_row j q, row_room j q)) (clean y b).1;
    }

    module _ (e : Edges) where
      pub laid-length : length (band_laid d cols from t count e work) ≡ length work
      laid-length = length-laid (band_at d cols) _ work cols count (λ y. length-tab cols _) target count (omega arith)

      pub laid_beside : (s m : ℕ) → Apart s m first (packet_size z (detail l)) → part (band_laid d cols from t count e work) s m ≡ part work s m
      laid_beside s m o =
          laid_out (band_at d cols) _ work cols count (λ y. length-tab cols _) target s m count (omega arith)
          (λ y b. apart-within s m first (packet_size z (detail l)) (band_at d cols y) cols (omega (arith, at_row y b)) (omega (arith, at_row y b, row_room y b)) o)

      module _ (edge : (y : ℕ) → y < count → edge_row_at e y ≡ is_edge (src y)) (p : Plane) (given : (y : ℕ) → y < count → part work (from + y * t) cols ≡ line cols p y) where
        number-back : (y x : ℕ) → y < count → x < cols → back e.odd (some_source (edge_row_at e y)) (at (part work (from + y * t) cols) x) ≡ back e.odd (src y) (p y x)
        number-back y x b c =
            let v = at-line cols (part work (from + y * t) cols) (p y) (given y b) x c in
            (λ i. back e.odd (some_source (edge y b i)) (v i)) ∙ back_some e.odd (src y) (p y x)

        number-refused : (y x : ℕ) → y < count → x < cols → band_refusal e.odd (some_source (edge_row_at e y)) (at (part work (from + y * t) cols) x) ≡ band_refusal e.odd (src y) (p y x)
        number-refused y x b c =
            let v = at-line cols (part work (from + y * t) cols) (p y) (given y b) x c in
            (λ i. band_refusal e.odd (some_source (edge y b i)) (v i)) ∙ refusal-some e.odd (src y) (p y x)

        pub laid-refused : band_refused cols from t count e work ≡ places count cols (λ y x. band_refusal e.odd (src y) (p y x))
        laid-refused = each_same _ _ count (λ y b. each_same _ _ cols (λ x c. number-refused y x b c))

        pub laid-numbers : (rest : ℕ → Plane) → Numbers z start (detail l) rest work
            → Numbers z start (detail l) (λ c r x. seek e.odd src p c r x count (rest c r x)) (band_laid d cols from t count e work)
        laid-numbers rest q =
            let room = packet-room z start (length work) held (detail l) in
            let h = packet_rows (detail l) (z.n + 1) in
            let same =
            laid_same (band_at d cols) (place_of (detail l) cols h first e.odd src p rest work room)
            _ (line_back (detail l) cols h first e.odd src p rest work room) work count
            at_row (λ y b. tab-same cols _ _ (λ x c. number-back y x b c)) in
            ap (λ (m : List ℤ). part m first (packet_size z (detail l))) same
            ∙ laid-seek (detail l) cols h first e.odd src p rest work room count few low (q ∙ packet-flat z.w (detail l) (z.n + 1) rest)
            ∙ sym (packet-flat z.w (detail l) (z.n + 1) _)
