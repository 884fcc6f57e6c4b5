-- Rows of numbers that may be written.
use Rattle.std.specs.Prelude.{List, ℕ, ◌^◌, ◌<◌, ℤ, pos, nat_abs, get_or}
use Rattle.format.specs.Lifting.{Signal}

-- a row as a signal: 0 past its end
abbrev pub line : List ℤ → Signal
line l x = get_or l x (pos 0)

-- the numbers of a row that may be written: below 2 ^ 19 in magnitude
abbrev pub Small : Signal → Type 0
Small f = (x : ℕ) → nat_abs (f x) < 2 ^ 19
