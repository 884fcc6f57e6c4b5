-- Records that stand finished in their ring, row by row: they are what a level reads. Assumes nothing.
use Rattle.std.proofs.Common.{◌≡◌, refl, sym, ap, ◌∙◌, Bool, cond, List, ℕ, suc, ◌+◌, ◌*◌, ◌/◌, ◌%◌, ◌≤◌, ◌<◌, mul-le-mul_right, mul_assoc, add-mul, add_assoc, mod-lt, div-add-mod', arith, ℤ}
use lib.Arith.{digits_div, digits_mod, mod-mul}
use Rattle.lists.specs.Lists.{part}
use Rattle.lists.proofs.Part.{part-part}
use Rattle.lists.proofs.Rows.{row-rows}
use Rattle.lists.proofs.Tab.{length-tab, tab-same}
use Rattle.wrap32.specs.Arithmetic.{wrapping}
use Rattle.wrap32.specs.Edge.{edge_detail}
use Rattle.format.specs.Coefficients.{Coefs}
use Rattle.format.specs.Lifting.{Plane}
use Rattle.format.specs.Sizes.{Colour, Level, Group, base, detail, multiplier, components, columns, Tall}
use Rattle.format.specs.Synthesis.{value, bands, ll1}
use Rattle.format.specs.Table.{start, height, highs, Source, S, E, source, band_rows, mode, is_edge, from_component, from_row, as_edge}
use Rattle.format.specs.Table as table
use Rattle.format.proofs.Ranges.{multiplier-some}
use Rattle.passes.specs.Plan.{line}
use Rattle.passes.proofs.PlaceLaws.{place_is}
use Rattle.levels.specs.Placed.{row_in}
use Rattle.levels.specs.Block.{stood, record_size, record_row, record_lines}
use Rattle.format.proofs.Edges.{edge-where}

-- row t of component c in record q, of k components of m rows of w numbers
pub place-split : (q k c m t w : ℕ) → ((q * k + c) * m + t) * w ≡ q * (k * m * w) + (c * m + t) * w
place-split q k c m t w = simp (add-mul, mul_assoc, add_assoc)

-- row r of a ring of s records of m rows: its record's slot, and its row there
module _ (s m r : ℕ) (a : 1 ≤ s) (b : 1 ≤ m) where
  ring-row : r % (s * m) ≡ r / m % s * m + r % m
  ring-row = mod-mul r a b

  pub slot_is : r % (s * m) / m ≡ r / m % s
  slot_is = ap (λ (j : ℕ). j / m) ring-row ∙ digits_div (r / m % s) (mod-lt r b)

  pub row_is : r % (s * m) % m ≡ r % m
  row_is = ap (λ (j : ℕ). j % m) ring-row ∙ digits_mod (r / m % s) (mod-lt r b)

-- row r of component c of a group lies in its record, which stands in its slot
module _ (w s at : ℕ) (m : Group) (some : 1 ≤ s) (p : ℕ → Plane) (work : List ℤ) (c r : ℕ) (below : c < components m) (e : part work (at + r / multiplier m % s * record_size w m) (record_size w m) ≡ record_lines w m p (r / multiplier m)) where
  abbrev k : ℕ
  k = multiplier m

  abbrev j : ℕ
  j = c * k + r % k

  inside : suc j ≤ components m * k
  inside = let i = mul-le-mul_right k below in omega (arith, i, mod-lt r (multiplier-some m))

  place-row : row_in w s at m c r ≡ at + r / k % s * record_size w m + j * columns w m
  place-row =
      place_is at k (components m) (columns w m) c (r % (s * k))
      ∙ (λ i. at + ((slot_is s k r some (multiplier-some m) i * components m + c) * k + row_is s k r some (multiplier-some m) i) * columns w m)
      ∙ ap (λ (x : ℕ). at + x) (place-split (r / k % s) (components m) c k (r % k) (columns w m))
      ∙ sym (add_assoc at (r / k % s * record_size w m) (j * columns w m))

  pub stood-row : part work (row_in w s at m c r) (columns w m) ≡ line (columns w m) (p c) r
  stood-row =
      let i = mul-le-mul_right (columns w m) inside in
      let component : j / k ≡ c = digits_div c (mod-lt r (multiplier-some m)) in
      let own : r / k * k + j % k ≡ r = ap (λ (x : ℕ). r / k * k + x) (digits_mod c (mod-lt r (multiplier-some m))) ∙ div-add-mod' r k in
      ap (λ (a : ℕ). part work a (columns w m)) place-row
      ∙ sym (part-part work (at + r / k % s * record_size w m) (record_size w m) (j * columns w m) (columns w m) (omega (arith, i)))
      ∙ ap (λ (l : List ℤ). part l (j * columns w m) (columns w m)) e
      ∙ row-rows (columns w m) (record_row w m p (r / k)) (λ y. length-tab (columns w m) _) (components m * k) j inside
      ∙ (λ i. line (columns w m) (p (component i)) (own i))

-- ---- what a level reads of them
-- the rows that the table names, with E where it goes in
pub source-line : (g : Bool) (n : ℕ) → Tall g n → (l : Level) (i : Colour) (v : Coefs) (b : table.Band) (y c : ℕ) → y < band_rows (height g n l) (highs g l (height g n l)) b
    → line c (stood g n v (detail l) i (from_component (source g l (height g n l) b y))) (from_row (source g l (height g n l) b y)) ≡ line c (bands wrapping g l (height g n l) i (v (detail l) i) b) y
unfolding stood
source-line g n t l i v b y c p = by (source g l (height g n l) b y) (edge-where g n t l b y p)
  where
    by : (o : Source) → as_edge g n l (from_row o / multiplier (detail l)) (from_component o) (from_row o % multiplier (detail l)) ≡ is_edge o
        → line c (stood g n v (detail l) i (from_component o)) (from_row o) ≡ line c (λ _ x. value wrapping (mode l i) o (v (detail l) i) x) y
    by (S d r) e = tab-same c _ _ (λ x _. ap (λ (t : Bool). cond t (edge_detail wrapping (mode l i) (v (detail l) i d r x)) (v (detail l) i d r x)) e)
    by (E d r) e = tab-same c _ _ (λ x _. ap (λ (t : Bool). cond t (edge_detail wrapping (mode l i) (v (detail l) i d r x)) (v (detail l) i d r x)) e)

-- level 1's ll
pub sums-line : (g : Bool) (n w : ℕ) (i : Colour) (v : Coefs) (y c : ℕ) → line c (stood g n v base i 0) (y + start g) ≡ line c (ll1 wrapping g n w i v) y
unfolding stood ll1
sums-line g n w i v y c = refl
