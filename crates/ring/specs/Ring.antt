-- Rows of a ring: each c numbers of lo, then c of hi.
use Rattle.std.specs.Prelude.{List, ◌++◌, ℕ, ◌+◌, ◌≤◌, ℤ}
use Rattle.lists.specs.Lists.{part}
use Rattle.lifting.specs.Lift.{high_step, end_step, low_row, step_row, lift_row}
use Rattle.ring.specs.declared.Rows.{Rows}

-- the low bands' rows of c numbers stand within n numbers, and the high bands' rows do
abbrev pub LowsIn : ℕ → ℕ → Rows → Type 0
LowsIn c n r = (r.ll + c ≤ n) × (r.hl + c ≤ n)

abbrev pub HighsIn : ℕ → ℕ → Rows → Type 0
HighsIn c n r = (r.lh + c ≤ n) × (r.hh + c ≤ n)

-- lo from rows ll and lh of work, hi from hl and hh: the low row in r, the high rows in p and r
abbrev pub low_pair : ℕ → List ℤ → Rows → Rows → List ℤ
low_pair c w p r =
    low_row c (part w r.ll c) (part w p.lh c) (part w r.lh c) ++ low_row c (part w r.hl c) (part w p.hh c) (part w r.hh c)

-- lo from row lh of work, hi from hh, and from rows a and b of the ring, by a step; between the two; and beside one row
abbrev pub step_pair : (ℤ → ℤ → ℤ → ℤ) → ℕ → List ℤ → Rows → List ℤ → ℕ → ℕ → List ℤ
step_pair step c w r ring a b =
    step_row step c (part w r.lh c) (part ring a c) (part ring b c) ++ step_row step c (part w r.hh c) (part ring (a + c) c) (part ring (b + c) c)

abbrev pub high_pair : ℕ → List ℤ → Rows → List ℤ → ℕ → ℕ → List ℤ
high_pair c w r ring a b = step_pair high_step c w r ring a b

abbrev pub end_pair : ℕ → List ℤ → Rows → List ℤ → ℕ → List ℤ
end_pair c w r ring a = step_pair end_step c w r ring a a

-- the ring's row at a, lifted along itself
abbrev pub along_row : ℕ → List ℤ → ℕ → List ℤ
along_row c ring a = lift_row c (part ring a c) (part ring (a + c) c)
