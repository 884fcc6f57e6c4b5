-- The rows of synthesis undone, from the rows that they are made of: document 01, 'Recovery'. Sums wrap at 32 bits; shifts floor.
use Rattle.std.specs.Prelude.{List, ◌++◌, cond, ℕ, ◌+◌, ◌-◌, ◌*◌, min, eqb, ℤ, pos, ◌+ℤ◌}
use Rattle.std.specs.Int.Signed.{shr_z}
use Rattle.wrap32.specs.Cut.{add_w, sub_w}
use Rattle.wrap32.specs.Arithmetic.{wrapping}
use Rattle.lists.specs.Lists.{tab}
use Rattle.format.specs.Lifting.{low_leads, highs_of, lows_of}
use Rattle.format.specs.Synthesis.{quarter}
use Rattle.lifting.specs.Lift.{at}

-- h less half of (a + b); l plus a quarter of (p + c + 2)
unfoldable pub half_back : ℤ → ℤ → ℤ → ℤ
half_back h a b = sub_w h (shr_z (add_w a b) 2)

unfoldable pub quarter_back : ℤ → ℤ → ℤ → ℤ
quarter_back l p c = add_w l (shr_z (add_w (add_w p c) (pos 2)) 4)

-- a high with one neighbour only: the neighbour itself is taken off
abbrev pub whole_back : ℤ → ℤ → ℤ → ℤ
whole_back h a b = sub_w h a

-- the lows of one row of 2 c, from its own even places and its highs
abbrev pub lows_from : ℕ → List ℤ → List ℤ → List ℤ
lows_from c row high = tab c (λ x. quarter_back (at row (2 * x)) (at high (x - 1)) (at high x))

-- a row of 2 c undone: its c lows, then its c highs
abbrev pub split_row : ℕ → List ℤ → List ℤ
split_row c row = tab c (lows_of low_leads c c (at row)) ++ tab c (highs_of low_leads c (at row))

-- ---- green, from rows y and y + 1 of 2 c: what its even column x has from the odd ones around it; the details
unfoldable pub around_at : List ℤ → List ℤ → ℕ → ℤ
around_at row next x =
    cond (eqb x 0)
    (shr_z (add_w (at row 1) (at next 1)) 2)
    (quarter wrapping (at row (2 * (x - 1) + 1)) (at next (2 * (x - 1) + 1)) (at row (2 * x + 1)) (at next (2 * x + 1)))

abbrev pub detail_of : List ℤ → List ℤ → ℕ → ℤ
detail_of row next x = sub_w (at row (2 * x)) (around_at row next x)

abbrev pub details_row : ℕ → List ℤ → List ℤ → List ℤ
details_row c row next = tab c (detail_of row next)

-- the averages, from row y and the details of rows y - 1 and y
unfoldable pub guess_at : ℕ → List ℤ → List ℤ → ℕ → ℤ
guess_at c prev cur x = quarter wrapping (at prev x) (at cur x) (at prev (min (x + 1) (c - 1))) (at cur (min (x + 1) (c - 1)))

unfoldable pub average_back : ℤ → ℤ → ℤ
average_back o g = add_w o (shr_z (g +ℤ pos 1) 2)

abbrev pub averages_row : ℕ → List ℤ → List ℤ → List ℤ → List ℤ
averages_row c row prev cur = tab c (λ x. average_back (at row (2 * x + 1)) (guess_at c prev cur x))
