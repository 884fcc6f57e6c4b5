-- How many rows a level has, of each kind. Assumes nothing.
use Rattle.std.proofs.Common.{◌≡◌, refl, Bool, true, false, ℕ, ◌+◌, ◌*◌, ◌%◌, ◌^◌, ◌≤◌, ◌<◌, arith, ltb}
use Rattle.wrap32.proofs.Laws.{of-cond}
use Rattle.format.specs.Sizes.{Level, l1, l2, l3, detail, multiplier, columns, Tall}
use Rattle.format.specs.Table.{height, highs}
use Rattle.passes.specs.declared.Band as code-band
use Rattle.passes.specs.Level.{packet_row}
use Rattle.levels.specs.Placed.{Short}
use Rattle.levels.specs.Steps.{leads, next}

pub highs-2 : (g : Bool) (n : ℕ) → height g n l2 ≡ highs g l2 (height g n l2)
highs-2 false n = refl
highs-2 true n = refl

pub highs-3 : (g : Bool) (n : ℕ) → height g n l3 ≡ highs g l3 (height g n l3)
highs-3 false n = refl
highs-3 true n = refl

pub height-pos : (g : Bool) (n : ℕ) → Tall g n → (l : Level) → 1 ≤ height g n l
height-pos false n t l1 = omega arith
height-pos false n t l2 = omega arith
height-pos false n t l3 = omega arith
height-pos true n t l1 = omega arith
height-pos true n t l2 = omega arith
height-pos true n t l3 = omega arith

pub heights : (g : Bool) (n : ℕ) → Tall g n → (l : Level) → (height g n l ≤ highs g l (height g n l)) × (highs g l (height g n l) ≤ height g n l + 1) × (leads g l ≡ false → highs g l (height g n l) ≡ height g n l)
heights false n t l = (omega arith, omega arith, (λ e. refl))
heights true n t l1 = (omega arith, omega arith, absurd-of)
  where
    absurd-of : true ≡ false → highs true l1 (height true n l1) ≡ height true n l1
    absurd-of e = cc
heights true n t l2 = (omega arith, omega arith, (λ e. refl))
heights true n t l3 = (omega arith, omega arith, (λ e. refl))

-- the columns of a level's outcome
pub next-columns : (w : ℕ) → w % 16 ≡ 0 → (l : Level) → 2 * columns w (detail l) ≡ columns w (next l)
next-columns w h l1 = omega (arith, h)
next-columns w h l2 = omega (arith, h)
next-columns w h l3 = omega (arith, h)

pub next-rows : (s : ℕ) (l : Level) → 2 * (s * multiplier (detail l)) ≡ s * multiplier (next l)
next-rows s l1 = omega arith
next-rows s l2 = omega arith
next-rows s l3 = omega arith

-- rows of a level can be counted
pub row_count : (d : code-band.Band) (y : ℕ) → Short d → y < 2 ^ 40 → packet_row d y < 2 ^ 64
row_count d y s h =
    of-cond (λ (k : ℕ). y + k < 2 ^ 64) (ltb y d.runs.head) d.runs.first.1 _ (λ _. omega (arith, s.first)) (λ _.
    of-cond (λ (k : ℕ). y + k < 2 ^ 64) (ltb y d.runs.tail) d.runs.middle.1 d.runs.last.1 (λ _. omega (arith, s.middle)) (λ _. omega (arith, s.last)))

pub few-rows : (g : Bool) (n : ℕ) (l : Level) → n < 2 ^ 32 → (height g n l < 2 ^ 36) × (highs g l (height g n l) < 2 ^ 37)
few-rows false n l1 h = (omega arith, omega arith)
few-rows false n l2 h = (omega arith, omega arith)
few-rows false n l3 h = (omega arith, omega arith)
few-rows true n l1 h = (omega arith, omega arith)
few-rows true n l2 h = (omega arith, omega arith)
few-rows true n l3 h = (omega arith, omega arith)
