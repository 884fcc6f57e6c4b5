-- Which rows of a band are edge rows, by document 01's table. Assumes nothing.
use Rattle.std.proofs.Common.{◌≡◌, refl, Bool, true, false, not, cond, ⊎_elim, ℕ, ◌+◌, ◌-◌, ◌≤◌, ◌<◌, arith, ltb, ℤ, eq-eqb, ne_eqb, lt-ltb, le-ltb}
use native.Mathlib.Nat.{sub-zero}
use mir.Val.{bool_byte}
use Rattle.format.specs.Sizes.{l2, l3}
use Rattle.format.specs.Table.{Source, S, E, hh, source, is_edge}
use Rattle.format.specs.Recovery.{back}
use Rattle.format.specs.Writing.{band_refusal}
use Rattle.format.proofs.BitLaws.{le-or-lt}
use Rattle.format.proofs.TableLaws.{Straight, straight}
use Rattle.returning.specs.Return.{some_source}

-- a source counts by whether it has E applied
pub back_some : (odd : Bool) (s : Source) (z : ℤ) → back odd (some_source (is_edge s)) z ≡ back odd s z
back_some odd (S c r) z = refl
back_some odd (E c r) z = refl

pub refusal-some : (odd : Bool) (s : Source) (z : ℤ) → band_refusal odd (some_source (is_edge s)) z ≡ band_refusal odd s z
refusal-some odd (S c r) z = refl
refusal-some odd (E c r) z = refl

-- no row is an edge row
pub none-edge : (m y : ℕ) (s : Source) → y < m → Straight s → cond (ltb y 0) true (not (ltb y m)) ≡ is_edge s
none-edge m y s h (straight c r) = rw (le-ltb y 0 (omega arith), lt-ltb y m h)

-- the rows at both ends
ends-edge : (a b : Bool) (c r d q f p : ℕ) → cond a true (not b) ≡ is_edge (cond a (E c r) (cond b (S d q) (E f p)))
ends-edge true b c r d q f p = refl
ends-edge false true c r d q f p = refl
ends-edge false false c r d q f p = refl

module _ (h y : ℕ) (low : y < h) where
  pub edge-plain-2 : cond (ltb y 1) true (not (ltb y (h - 1))) ≡ is_edge (source false l2 h hh y)
  unfolding source
  edge-plain-2 = ends-edge (ltb y 1) (ltb y (h - 1)) 1 y 2 (y + 1) 1 (h + (y - (h - 1)))

  pub edge-plain-3 : cond (ltb y 2) true (not (ltb y (h - 2))) ≡ is_edge (source false l3 h hh y)
  unfolding source
  edge-plain-3 = ends-edge (ltb y 2) (ltb y (h - 2)) 1 y 2 (y + 2) 1 (h + (y - (h - 2)))

  pub edge-guarded-2 : cond (ltb y 1) true (not (ltb y h)) ≡ is_edge (source true l2 h hh y)
  unfolding source
  edge-guarded-2 =
      ⊎_elim
      (λ (q : 1 ≤ y). rw (le-ltb y 1 q, lt-ltb y h low, ne_eqb y 0 (λ e. omega arith)))
      (λ (q : y < 1). rw (lt-ltb y 1 q, eq-eqb y 0 (omega arith)))
      (le-or-lt 1 y)

  pub edge-guarded-3 : cond (ltb y 1) true (not (ltb y (h - 1))) ≡ is_edge (source true l3 h hh y)
  unfolding source
  edge-guarded-3 =
      ⊎_elim
      (λ (q : 1 ≤ y).
      ⊎_elim
      (λ (t : h ≤ y + 1). rw (le-ltb y 1 q, le-ltb y (h - 1) (omega arith), ne_eqb y 0 (λ e. omega arith), eq-eqb (y + 1) h (omega arith)))
      (λ (t : y + 1 < h). rw (le-ltb y 1 q, lt-ltb y (h - 1) (omega arith), ne_eqb y 0 (λ e. omega arith), ne_eqb (y + 1) h (λ e. omega arith)))
      (le-or-lt h (y + 1)))
      (λ (q : y < 1). rw (lt-ltb y 1 q, eq-eqb y 0 (omega arith)))
      (le-or-lt 1 y)

  -- both, by how many rows more are edge rows at each end of a plain level
  module _ (g : Bool) (plain : ℕ) where
    pub edge-2 : plain ≡ bool_byte (not g) → cond (ltb y 1) true (not (ltb y (h - plain))) ≡ is_edge (source g l2 h hh y)
    edge-2 e = by g e
      where
        by : (b : Bool) → plain ≡ bool_byte (not b) → cond (ltb y 1) true (not (ltb y (h - plain))) ≡ is_edge (source b l2 h hh y)
        by false p = rw p edge-plain-2
        by true p = rw (p, sub-zero h) edge-guarded-2

    pub edge-3 : plain ≡ bool_byte (not g) → cond (ltb y (1 + plain)) true (not (ltb y (h - 1 - plain))) ≡ is_edge (source g l3 h hh y)
    edge-3 e = by g e
      where
        by : (b : Bool) → plain ≡ bool_byte (not b) → cond (ltb y (1 + plain)) true (not (ltb y (h - 1 - plain))) ≡ is_edge (source b l3 h hh y)
        by false p = let k : h - 1 - 1 ≡ h - 2 = omega arith in rw (p, k) edge-plain-3
        by true p = rw (p, sub-zero (h - 1)) edge-guarded-3
