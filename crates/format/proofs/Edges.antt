-- The rows that go in as E are those of the first and the last record that `as_edge` says. Assumes nothing.
use Rattle.std.proofs.Common.{◌≡◌, refl, sym, ◌∙◌, Bool, true, false, cond, ◌≢◌, ℕ, ◌+◌, ◌-◌, ◌*◌, ◌/◌, ◌%◌, ◌≤◌, ◌<◌, arith, eqb, ltb, eqb-true, ltb-true, ltb-false, eq-eqb, ne_eqb, lt-ltb}
use Rattle.std.proofs.lemmas.Bool.{eqb-false}
use Rattle.wrap32.proofs.Laws.{of-cond}
use Rattle.format.specs.Sizes.{Level, l1, l2, l3, detail, multiplier, Tall}
use Rattle.format.specs.Table.{height, highs, band_rows, Source, S, E, hl, lh, hh, plain, source, is_edge, from_component, from_row, ends, as_edge}
use Rattle.format.specs.Table as table

-- `as_edge` says it
abbrev Says : Bool → ℕ → Level → Source → Type 0
Says g n l o = as_edge g n l (from_row o / multiplier (detail l)) (from_component o) (from_row o % multiplier (detail l)) ≡ is_edge o

ends-no : (t n : ℕ) → t ≢ 0 → t ≢ n → ends t n ≡ false
ends-no t n a b = rw (ne_eqb t 0 a, ne_eqb t n b)

ends-yes : (t n : ℕ) → t ≡ n → ends t n ≡ true
ends-yes t n e = rw (eq-eqb t n e) (of-cond (λ (b : Bool). b ≡ true) (eqb t 0) true true (λ _. refl) (λ _. refl))

-- a row of no edge, whatever the test of its place in the record
under : (x : Bool) (t n : ℕ) → (x ≡ true → (t ≢ 0) × (t ≢ n)) → cond x (ends t n) false ≡ false
under true t n f = ends-no t n (f refl).0 (f refl).1
under false t n f = refl

-- plain 2 and 3
module _ (n : ℕ) (k : 1 ≤ n) where
  second : (b : table.Band) (y : ℕ) → y < 2 * n → Says false n l2 (plain 1 (2 * n) b y)
  unfolding as_edge
  second hl y p = of-cond (Says false n l2) (ltb y 1) _ _ (λ _. refl) (λ _. of-cond (Says false n l2) (ltb y (2 * n - 1)) _ _ (λ _. refl) (λ _. refl))
  second lh y p =
      of-cond (Says false n l2) (ltb y 1) _ _ (λ _. refl) λ e.
      let f = ltb-false y 1 e in
      of-cond (Says false n l2) (ltb y (2 * n - 1)) _ _ (λ d. let g = ltb-true y (2 * n - 1) d in under (ltb ((y + 1) % 2) 1) ((y + 1) / 2) n (λ _. ((λ q. absurd (omega (arith, q, f))), (λ q. absurd (omega (arith, q, g)))))) (λ _. refl)
  second hh y p =
      of-cond (Says false n l2) (ltb y 1) _ _
      (λ e. let f = ltb-true y 1 e in let j : y % 2 < 1 = omega (arith, f) in let t : y / 2 ≡ 0 = omega (arith, f) in rw (lt-ltb (y % 2) 1 j, eq-eqb (y / 2) 0 t)) λ e.
      of-cond (Says false n l2) (ltb y (2 * n - 1)) _ _ (λ _. refl)
      (λ d. let g = ltb-false y (2 * n - 1) d in
      let r = 2 * n + (y - (2 * n - 1)) in
      let j : r % 2 < 1 = omega (arith, g, p) in
      let t : r / 2 ≡ n = omega (arith, g, p) in
      rw (lt-ltb (r % 2) 1 j) (ends-yes (r / 2) n t))

  third : (b : table.Band) (y : ℕ) → y < 4 * n → Says false n l3 (plain 2 (4 * n) b y)
  unfolding as_edge
  third hl y p = of-cond (Says false n l3) (ltb y 2) _ _ (λ _. refl) (λ _. of-cond (Says false n l3) (ltb y (4 * n - 2)) _ _ (λ _. refl) (λ _. refl))
  third lh y p =
      of-cond (Says false n l3) (ltb y 2) _ _ (λ _. refl) λ e.
      let f = ltb-false y 2 e in
      of-cond (Says false n l3) (ltb y (4 * n - 2)) _ _ (λ d. let g = ltb-true y (4 * n - 2) d in under (ltb ((y + 2) % 4) 2) ((y + 2) / 4) n (λ _. ((λ q. absurd (omega (arith, q, f))), (λ q. absurd (omega (arith, q, g)))))) (λ _. refl)
  third hh y p =
      of-cond (Says false n l3) (ltb y 2) _ _
      (λ e. let f = ltb-true y 2 e in let j : y % 4 < 2 = omega (arith, f) in let t : y / 4 ≡ 0 = omega (arith, f) in rw (lt-ltb (y % 4) 2 j, eq-eqb (y / 4) 0 t)) λ e.
      of-cond (Says false n l3) (ltb y (4 * n - 2)) _ _ (λ _. refl)
      (λ d. let g = ltb-false y (4 * n - 2) d in
      let r = 4 * n + (y - (4 * n - 2)) in
      let j : r % 4 < 2 = omega (arith, g, p) in
      let t : r / 4 ≡ n = omega (arith, g, p) in
      rw (lt-ltb (r % 4) 2 j) (ends-yes (r / 4) n t))

pub edge-where : (g : Bool) (n : ℕ) → Tall g n → (l : Level) (b : table.Band) (y : ℕ) → y < band_rows (height g n l) (highs g l (height g n l)) b → Says g n l (source g l (height g n l) b y)
unfolding source as_edge
edge-where false n k l1 hl y p = refl
edge-where false n k l1 lh y p = of-cond (Says false n l1) (eqb (y + 1) n) _ _ (λ _. refl) (λ _. refl)
edge-where false n k l1 hh y p = of-cond (Says false n l1) (eqb (y + 1) n) _ _ (λ _. refl) (λ _. refl)
edge-where false n k l2 hl y p = second n k hl y p
edge-where false n k l2 lh y p = second n k lh y p
edge-where false n k l2 hh y p = second n k hh y p
edge-where false n k l3 hl y p = third n k hl y p
edge-where false n k l3 lh y p = third n k lh y p
edge-where false n k l3 hh y p = third n k hh y p
edge-where true n k l1 hl y p = refl
edge-where true n k l1 lh y p = of-cond (Says true n l1) (eqb y (n - 1)) _ _ (λ _. refl) (λ _. refl)
edge-where true n k l1 hh y p = of-cond (Says true n l1) (eqb y (n - 1)) _ _ (λ _. refl) (λ _. refl)
edge-where true n k l2 hl y p = let t : (y + 2) / 2 ≢ 0 = (λ q. absurd (omega (arith, q))) in rw (ne_eqb ((y + 2) / 2) 0 t) (of-cond (λ (b : Bool). b ≡ false) (eqb ((y + 2) % 2) 1) false false (λ _. refl) (λ _. refl))
edge-where true n k l2 lh y p = of-cond (Says true n l2) (eqb y 0) (S 0 0) (S 1 (y + 1)) (λ _. refl) (λ _. refl)
edge-where true n k l2 hh y p = of-cond (Says true n l2) (eqb y 0) (E 0 1) (S 2 (y + 1)) (λ _. refl) (λ _. refl)
edge-where true n k l3 hl y p =
    of-cond (Says true n l3) (eqb y 0) (S 0 0) (S 0 (y + 3)) (λ _. refl)
    (λ e. let f = eqb-false y 0 e in under (eqb ((y + 3) % 4) 2) ((y + 3) / 4) n (λ d. let j = eqb-true ((y + 3) % 4) 2 d in ((λ q. absurd (omega (arith, q, f))), (λ q. absurd (omega (arith, q, j, p, k))))))
edge-where true n k l3 lh y p =
    of-cond (Says true n l3) (eqb y 0) (S 0 1) _ (λ _. refl) λ e.
    of-cond (Says true n l3) (eqb (y + 1) (4 * n - 2)) (S 0 (4 * n - 2 + 3)) (S 1 (y + 3)) (λ d. let j : (4 * n - 2 + 3) % 4 ≢ 2 = (λ q. absurd (omega (arith, q, k))) in rw (ne_eqb ((4 * n - 2 + 3) % 4) 2 j)) (λ _. refl)
edge-where true n k l3 hh y p =
    of-cond (Says true n l3) (eqb y 0) (E 0 2) _ (λ _. refl) λ e.
    of-cond (Says true n l3) (eqb (y + 1) (4 * n - 2)) (E 0 (4 * n - 2 + 4)) (S 2 (y + 3))
    (λ d.
    let j : (4 * n - 2 + 4) % 4 ≡ 2 = omega (arith, k) in
    let t : (4 * n - 2 + 4) / 4 ≡ n = omega (arith, k) in
    rw (eq-eqb ((4 * n - 2 + 4) % 4) 2 j) (ends-yes ((4 * n - 2 + 4) / 4) n t))
    (λ _. refl)

-- so a row goes in one way only
pub one_way : (g : Bool) (n : ℕ) → Tall g n → (l : Level) (b d : table.Band) (y z : ℕ)
    → y < band_rows (height g n l) (highs g l (height g n l)) b → z < band_rows (height g n l) (highs g l (height g n l)) d
    → from_component (source g l (height g n l) d z) ≡ from_component (source g l (height g n l) b y) → from_row (source g l (height g n l) d z) ≡ from_row (source g l (height g n l) b y)
    → is_edge (source g l (height g n l) d z) ≡ is_edge (source g l (height g n l) b y)
one_way g n t l b d y z p q c r =
    sym (edge-where g n t l d z q) ∙ (λ j. as_edge g n l (r j / multiplier (detail l)) (c j) (r j % multiplier (detail l))) ∙ edge-where g n t l b y p
