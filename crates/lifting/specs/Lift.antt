-- The rows of synthesis, from the rows that they are made of: document 01, 'Synthesis'. Sums wrap at 32 bits; shifts floor.
use Rattle.std.specs.Prelude.{List, Bool, cond, ℕ, suc, ◌+◌, ◌-◌, ◌*◌, ◌/◌, ◌%◌, min, eqb, ℤ, pos, get_or}
use Rattle.std.specs.Int.Signed.{shr_z}
use Rattle.std.specs.Int.{w16}
use Rattle.wrap32.specs.Cut.{cut, add_w, sub_w}
use Rattle.wrap32.specs.Arithmetic.{wrapping}
use Rattle.wrap32.specs.Edge.{edge_detail}
use Rattle.lists.specs.Lists.{tab}
use Rattle.format.specs.Synthesis.{sum_of}

-- what stands at k
abbrev pub at : List ℤ → ℕ → ℤ
at l k = get_or l k (pos 0)

-- l less a quarter of (p + c + 2)
unfoldable pub low_step : ℤ → ℤ → ℤ → ℤ
low_step l p c = sub_w l (shr_z (add_w (add_w p c) (pos 2)) 4)

-- h plus half of (a + b)
unfoldable pub high_step : ℤ → ℤ → ℤ → ℤ
high_step h a b = add_w h (shr_z (add_w a b) 2)

-- a high result with one neighbour only: the neighbour itself is added
abbrev pub end_step : ℤ → ℤ → ℤ → ℤ
end_step h a b = add_w h a

-- what a step makes at place k of the rows l, a and b; and a row of n such places
abbrev pub step_at : (ℤ → ℤ → ℤ → ℤ) → List ℤ → List ℤ → List ℤ → ℕ → ℤ
step_at step l a b k = step (at l k) (at a k) (at b k)

abbrev pub step_row : (ℤ → ℤ → ℤ → ℤ) → ℕ → List ℤ → List ℤ → List ℤ → List ℤ
step_row step n l a b = tab n (step_at step l a b)

-- n low results of a row, from the rows of highs before and at it; n high results, from the rows of results before and after it, or from one only
abbrev pub low_row : ℕ → List ℤ → List ℤ → List ℤ → List ℤ
low_row n low prev cur = step_row low_step n low prev cur

abbrev pub high_row : ℕ → List ℤ → List ℤ → List ℤ → List ℤ
high_row n high a b = step_row high_step n high a b

abbrev pub end_row : ℕ → List ℤ → List ℤ → List ℤ
end_row n high a = step_row end_step n high a a

-- ---- one row, lifted along itself: w lows and w highs give 2 w results. An index beyond the edge is the edge's own

-- the result at 2 x
abbrev pub even_at : List ℤ → List ℤ → ℕ → ℤ
even_at low high x = low_step (at low x) (at high (x - 1)) (at high x)

-- the result at 2 x + 1
abbrev pub odd_at : ℕ → List ℤ → List ℤ → ℕ → ℤ
odd_at w low high x = high_step (at high x) (even_at low high x) (even_at low high (min (x + 1) (w - 1)))

unfoldable pub lift_at : ℕ → List ℤ → List ℤ → ℕ → ℤ
lift_at w low high k = cond (eqb (k % 2) 0) (even_at low high (k / 2)) (odd_at w low high (k / 2))

abbrev pub lift_row : ℕ → List ℤ → List ℤ → List ℤ
lift_row w low high = tab (2 * w) (lift_at w low high)

-- ---- one row by itself: E, and the running sum of the low 16 bits
abbrev pub edge_at : Bool → List ℤ → ℕ → ℤ
edge_at odd l x = edge_detail wrapping odd (at l x)

abbrev pub edge_row : ℕ → Bool → List ℤ → List ℤ
edge_row n odd l = tab n (edge_at odd l)

abbrev pub sum_at : List ℤ → ℕ → ℤ
sum_at l x = sum_of wrapping (λ k. cut w16 (at l k)) (suc x)

abbrev pub sum_row : ℕ → List ℤ → List ℤ
sum_row n l = tab n (sum_at l)
