-- Records finished as the code does it are the rows that stand, of a stream's coefficients. Assumes nothing.
use Rattle.std.proofs.Common.{◌≡◌, refl, sym, ap, ◌∙◌, Bool, true, false, cond, List, ℕ, zero, suc, ◌+◌, ◌*◌, ◌/◌, ◌%◌, ◌≤◌, ◌<◌, mul-le-mul_right, mod-lt, div-add-mod', arith, eqb, ℤ, pos, length, get_or, w16}
use lib.Arith.{digits_div, digits_mod}
use Rattle.wrap32.specs.Cut.{cut}
use Rattle.wrap32.specs.Arithmetic.{wrapping}
use Rattle.wrap32.specs.Edge.{edge_detail}
use Rattle.lists.specs.Lists.{part}
use Rattle.lists.proofs.Rows.{rows_same, as_rows}
use Rattle.lists.proofs.Tab.{tab-same, get_d_part, part-tab}
use Rattle.format.specs.Coefficients.{record_values, coefs}
use Rattle.format.specs.Lifting.{Plane}
use Rattle.format.specs.Packets.{packet_of, kind}
use Rattle.format.specs.Sizes.{Colour, index, Level, l1, l2, l3, Group, base, detail, final, number, multiplier, components, columns}
use Rattle.format.specs.Strip.{width}
use Rattle.format.specs.Table.{mode, ends, as_edge}
use Rattle.format.proofs.Lengths.{length-values}
use Rattle.format.proofs.PlaceLaws.{open-sum}
use Rattle.format.proofs.Ranges.{multiplier-some}
use Rattle.lifting.specs.Lift.{at, edge_row, sum_row}
use Rattle.passes.specs.declared.Plan.{Plan}
use Rattle.passes.specs.Plan.{line}
use Rattle.passes.proofs.Planes.{at-line}
use Rattle.records.specs.Finished.{edges_end, edged, finished_by}
use Rattle.records.specs.declared.Finish.TheVariants.{Sums, Edges, Nothing}
use Rattle.records.proofs.Finished.{mode_of, length-finished, finished-row, finished-sums, finished-none}
use Rattle.levels.specs.Block.{stood, record_row, record_lines}
use Rattle.levels.proofs.Blocks.{base-line}
use Rattle.tile.specs.Packets.{Measured, finish_of}

-- ---- the rows with E
none : (b : Bool) → cond b false false ≡ false
none true = refl
none false = refl

one : (b : Bool) → cond b true false ≡ b
one true = refl
one false = refl

first_alone : (b : Bool) → cond (cond b true b) true false ≡ b
first_alone true = refl
first_alone false = refl

plain2 : (odd : Bool) (t n j : ℕ) → j < 6 → edged (Edges (record { first = 2; count = 1; last = n; odd = odd })) t j ≡ as_edge false n l2 t (j / 2) (j % 2)
unfolding edged as_edge
plain2 odd t n zero b = none (ends t n)
plain2 odd t n (suc zero) b = none (ends t n)
plain2 odd t n (suc (suc zero)) b = one (ends t n)
plain2 odd t n (suc (suc (suc zero))) b = none (ends t n)
plain2 odd t n (suc (suc (suc (suc zero)))) b = none (ends t n)
plain2 odd t n (suc (suc (suc (suc (suc zero))))) b = none (ends t n)
plain2 odd t n (suc (suc (suc (suc (suc (suc j)))))) b = absurd (omega arith)

plain3 : (odd : Bool) (t n j : ℕ) → j < 12 → edged (Edges (record { first = 4; count = 2; last = n; odd = odd })) t j ≡ as_edge false n l3 t (j / 4) (j % 4)
unfolding edged as_edge
plain3 odd t n zero b = none (ends t n)
plain3 odd t n (suc zero) b = none (ends t n)
plain3 odd t n (suc (suc zero)) b = none (ends t n)
plain3 odd t n (suc (suc (suc zero))) b = none (ends t n)
plain3 odd t n (suc (suc (suc (suc zero)))) b = one (ends t n)
plain3 odd t n (suc (suc (suc (suc (suc zero))))) b = one (ends t n)
plain3 odd t n (suc (suc (suc (suc (suc (suc zero)))))) b = none (ends t n)
plain3 odd t n (suc (suc (suc (suc (suc (suc (suc zero))))))) b = none (ends t n)
plain3 odd t n (suc (suc (suc (suc (suc (suc (suc (suc zero)))))))) b = none (ends t n)
plain3 odd t n (suc (suc (suc (suc (suc (suc (suc (suc (suc zero))))))))) b = none (ends t n)
plain3 odd t n (suc (suc (suc (suc (suc (suc (suc (suc (suc (suc zero)))))))))) b = none (ends t n)
plain3 odd t n (suc (suc (suc (suc (suc (suc (suc (suc (suc (suc (suc zero))))))))))) b = none (ends t n)
plain3 odd t n (suc (suc (suc (suc (suc (suc (suc (suc (suc (suc (suc (suc j)))))))))))) b = absurd (omega arith)

guarded2 : (odd : Bool) (t n j : ℕ) → j < 6 → edged (Edges (record { first = 1; count = 1; last = 0; odd = odd })) t j ≡ as_edge true n l2 t (j / 2) (j % 2)
unfolding edged as_edge
guarded2 odd t n zero b = none (ends t 0)
guarded2 odd t n (suc zero) b = first_alone (eqb t 0)
guarded2 odd t n (suc (suc zero)) b = none (ends t 0)
guarded2 odd t n (suc (suc (suc zero))) b = none (ends t 0)
guarded2 odd t n (suc (suc (suc (suc zero)))) b = none (ends t 0)
guarded2 odd t n (suc (suc (suc (suc (suc zero))))) b = none (ends t 0)
guarded2 odd t n (suc (suc (suc (suc (suc (suc j)))))) b = absurd (omega arith)

guarded3 : (odd : Bool) (t n j : ℕ) → j < 12 → edged (Edges (record { first = 2; count = 1; last = n; odd = odd })) t j ≡ as_edge true n l3 t (j / 4) (j % 4)
unfolding edged as_edge
guarded3 odd t n zero b = none (ends t n)
guarded3 odd t n (suc zero) b = none (ends t n)
guarded3 odd t n (suc (suc zero)) b = one (ends t n)
guarded3 odd t n (suc (suc (suc zero))) b = none (ends t n)
guarded3 odd t n (suc (suc (suc (suc zero)))) b = none (ends t n)
guarded3 odd t n (suc (suc (suc (suc (suc zero))))) b = none (ends t n)
guarded3 odd t n (suc (suc (suc (suc (suc (suc zero)))))) b = none (ends t n)
guarded3 odd t n (suc (suc (suc (suc (suc (suc (suc zero))))))) b = none (ends t n)
guarded3 odd t n (suc (suc (suc (suc (suc (suc (suc (suc zero)))))))) b = none (ends t n)
guarded3 odd t n (suc (suc (suc (suc (suc (suc (suc (suc (suc zero))))))))) b = none (ends t n)
guarded3 odd t n (suc (suc (suc (suc (suc (suc (suc (suc (suc (suc zero)))))))))) b = none (ends t n)
guarded3 odd t n (suc (suc (suc (suc (suc (suc (suc (suc (suc (suc (suc zero))))))))))) b = none (ends t n)
guarded3 odd t n (suc (suc (suc (suc (suc (suc (suc (suc (suc (suc (suc (suc j)))))))))))) b = absurd (omega arith)

second : (g : Bool) (n t j : ℕ) → j < 6 → edged (Edges (record { first = cond g 1 2; count = 1; last = cond g 0 n; odd = false })) t j ≡ as_edge g n l2 t (j / 2) (j % 2)
second false n t j b = plain2 false t n j b
second true n t j b = guarded2 false t n j b

third : (odd g : Bool) (n t j : ℕ) → j < 12 → edged (Edges (record { first = cond g 2 4; count = cond g 1 2; last = n; odd = odd })) t j ≡ as_edge g n l3 t (j / 4) (j % 4)
third odd false n t j b = plain3 odd t n j b
third odd true n t j b = guarded3 odd t n j b

no_edges : (t j : ℕ) (g : Bool) (n : ℕ) → edged Nothing t j ≡ as_edge g n l1 t (j / 1) (j % 1)
unfolding edged as_edge
no_edges t j g n = refl

-- at every level
edges-same : (z : Plan) (l : Level) (i : Colour) (t j : ℕ) → j < 3 * multiplier (detail l) → edged (finish_of z (detail l) i) t j ≡ as_edge z.guarded z.n l t (j / multiplier (detail l)) (j % multiplier (detail l))
edges-same z l1 i t j b = no_edges t j z.guarded z.n
edges-same z l2 i t j b = second z.guarded z.n t j b
edges-same z l3 i t j b = third (mode l3 i) z.guarded z.n t j b

-- ---- a record's rows
module _ (s : List ℕ) (z : Plan) (m : Measured s z) (g : Group) (i : Colour) (kinds : kind (packet_of s (number g) (index i)) ≡ components g) (t : ℕ) where
  abbrev k : ℕ
  k = multiplier g

  abbrev c : ℕ
  c = columns z.w g

  abbrev v : ℕ → Plane
  v = coefs s g i

  abbrev values : List ℤ
  values = record_values (packet_of s (number g) (index i)) k c t

  long : length values ≡ components g * k * c
  long = length-values (packet_of s (number g) (index i)) k c t ∙ ap (λ (j : ℕ). j * k * c) kinds

  -- as they are read
  value_row : (j : ℕ) → j < components g * k → part values (j * c) c ≡ line c (v (j / k)) (t * k + j % k)
  unfolding coefs
  value_row j b =
      let fits = mul-le-mul_right c b in
      let small = mod-lt j (multiplier-some g) in
      part-tab values (j * c) c (pos 0) (omega (arith, long, fits))
      ∙ tab-same c _ _ (λ x _.
      ap (λ (w : ℕ). get_or (record_values (packet_of s (number g) (index i)) k (columns w g) t) (j * columns w g + x) (pos 0)) m.wide
      ∙ (λ q. get_or (record_values (packet_of s (number g) (index i)) k (columns (width s) g) (sym (digits_div t small) q)) (own j small q * columns (width s) g + x) (pos 0)))
    where
      own : (j : ℕ) → j % k < k → j ≡ j / k * k + (t * k + j % k) % k
      own j small = sym (ap (λ (x : ℕ). j / k * k + x) (digits_mod t small) ∙ div-add-mod' j k)

  -- a list of as many rows
  by_rows : (l : List ℤ) (p : ℕ → Plane) → length l ≡ components g * k * c → ((j : ℕ) → j < components g * k → part l (j * c) c ≡ record_row z.w g p t j) → l ≡ record_lines z.w g p t
  by_rows l p e f = as_rows c (components g * k) l e ∙ rows_same (components g * k) (λ y. part l (y * c) c) (record_row z.w g p t) f

-- a row with E, or not
edge-line : (b odd : Bool) (c : ℕ) (p : Plane) (r : ℕ) → cond b (edge_row c odd (line c p r)) (line c p r) ≡ line c (λ r x. cond b (edge_detail wrapping odd (p r x)) (p r x)) r
edge-line true odd c p r = tab-same c _ _ (λ x h. ap (edge_detail wrapping odd) (at-line c p r x h))
edge-line false odd c p r = refl

-- the rows with E lie in the record
edges-in : (z : Plan) (i : Colour) (l : Level) → edges_end (finish_of z (detail l) i) ≤ 3 * multiplier (detail l)
edges-in z i l1 = omega arith
edges-in z i l2 = by z.guarded
  where
    by : (g : Bool) → cond g 1 2 + 1 ≤ 6
    by true = omega arith
    by false = omega arith
edges-in z i l3 = by z.guarded
  where
    by : (g : Bool) → cond g 2 4 + cond g 1 2 ≤ 12
    by true = omega arith
    by false = omega arith

pub edges_fit : (z : Plan) (i : Colour) (g : Group) → edges_end (finish_of z g i) ≤ components g * multiplier g
edges_fit z i base = omega arith
edges_fit z i (detail l) = edges-in z i l
edges_fit z i final = omega arith

module _ (s : List ℕ) (z : Plan) (m : Measured s z) (i : Colour) (t : ℕ) where
  abbrev Kind : Group → Type 0
  Kind g = kind (packet_of s (number g) (index i)) ≡ components g

  abbrev read : Group → List ℤ
  read g = record_values (packet_of s (number g) (index i)) (multiplier g) (columns z.w g) t

  unsummed : (l : Level) → finish_of z (detail l) i ≡ Sums → ⊥
  unsummed l1 e = cc
  unsummed l2 e = cc
  unsummed l3 e = cc

  odd-mode : (l : Level) → mode_of (finish_of z (detail l) i) ≡ mode l i
  odd-mode l1 = refl
  odd-mode l2 = refl
  odd-mode l3 = refl

  detail-stood : (l : Level) → Kind (detail l) → finished_by (finish_of z (detail l) i) (columns z.w (detail l)) t (read (detail l)) ≡ record_lines z.w (detail l) (stood z.guarded z.n (coefs s) (detail l) i) t
  unfolding stood
  detail-stood l e =
      let f = finish_of z (detail l) i in
      let c = columns z.w (detail l) in
      let k = multiplier (detail l) in
      let size = long s z m (detail l) i e t in
      let fits = mul-le-mul_right c (edges-in z i l) in
      let room : edges_end f * c ≤ length (read (detail l)) = omega (arith, size, fits) in
      by_rows s z m (detail l) i e t (finished_by f c t (read (detail l))) (stood z.guarded z.n (coefs s) (detail l) i) (length-finished f c t (read (detail l)) room ∙ size)
      (λ j b.
      let r = t * k + j % k in
      let small = mod-lt j (multiplier-some (detail l)) in
      let p = coefs s (detail l) i (j / k) in
      let edge = edges-same z l i t j b ∙ (λ q. as_edge z.guarded z.n l (sym (digits_div t small) q) (j / k) (sym (digits_mod t small) q)) in
      finished-row f c t (read (detail l)) room j (unsummed l)
      ∙ (λ q. cond (edge q) (edge_row c (odd-mode l q) (value_row s z m (detail l) i e t j b q)) (value_row s z m (detail l) i e t j b q))
      ∙ edge-line (as_edge z.guarded z.n l (r / k) (j / k) (r % k)) (mode l i) c p r)

  base-stood : Kind base → finished_by (finish_of z base i) (columns z.w base) t (read base) ≡ record_lines z.w base (stood z.guarded z.n (coefs s) base i) t
  unfolding stood
  base-stood e =
      let c = columns z.w base in
      let l = read base in
      let size : length l ≡ c = long s z m base i e t ∙ omega arith in
      finished-sums c t l
      ∙ (λ q. sum_row (size q) l)
      ∙ tab-same c _ _ (λ x b. open-sum _ _ (suc x) (λ y d. ap (cut w16) (value y (omega (arith, b, d)))))
      ∙ sym (base-line z.w (stood z.guarded z.n (coefs s) base i) t)
    where
      value : (y : ℕ) → y < columns z.w base → at (read base) y ≡ coefs s base i 0 t y
      value y b =
          let c = columns z.w base in
          let first : y ≡ 0 * c + y = omega arith in
          let own : t * 1 + 0 ≡ t = omega arith in
          ap (λ (k : ℕ). get_or (read base) k (pos 0)) first
          ∙ sym (get_d_part (read base) (0 * c) c y (pos 0) b)
          ∙ ap (λ (l : List ℤ). get_or l y (pos 0)) (value_row s z m base i e t 0 (omega arith))
          ∙ at-line c (coefs s base i 0) (t * 1 + 0) y b
          ∙ ap (λ (r : ℕ). coefs s base i 0 r y) own

  final-stood : Kind final → finished_by (finish_of z final i) (columns z.w final) t (read final) ≡ record_lines z.w final (stood z.guarded z.n (coefs s) final i) t
  unfolding stood
  final-stood e =
      finished-none (columns z.w final) t (read final)
      ∙ by_rows s z m final i e t (read final) (stood z.guarded z.n (coefs s) final i) (long s z m final i e t) (λ j b. value_row s z m final i e t j b)

  pub finished-stood : (g : Group) → Kind g → finished_by (finish_of z g i) (columns z.w g) t (read g) ≡ record_lines z.w g (stood z.guarded z.n (coefs s) g i) t
  finished-stood base e = base-stood e
  finished-stood (detail l) e = detail-stood l e
  finished-stood final e = final-stood e
