-- The final green in the order in which the code adds, over an arithmetic A: `quarter` adds pairs, and `odd_one` takes half of p + 1 off l.
use Rattle.std.specs.Prelude.{cond, ℕ, ◌+◌, ◌-◌, min, eqb, pos}
use Rattle.wrap32.specs.Arithmetic.{Arithmetic}
use Rattle.format.specs.Lifting.{PlaneOf, weave}
use Rattle.green.specs.Green.{quarter_of, right}

module _ {N : Type 0} (A : Arithmetic N) where
  open A use {of, plus, minus, shift}

  -- from averages l and details d of c columns
  unfoldable pub odds_by : ℕ → PlaneOf N → PlaneOf N → PlaneOf N
  odds_by c l d y x = minus (l y x) (shift (plus (quarter_of A (d (y - 1) x) (d (y - 1) (right c x)) (d y x) (d y (right c x))) (of (pos 1))) 2)

  -- from odd greens o of h rows
  unfoldable pub evens_by : ℕ → PlaneOf N → PlaneOf N → PlaneOf N
  evens_by h o d y x =
      plus (d y x)
      (cond (eqb x 0)
      (shift (plus (o y 0) (o (min (y + 1) (h - 1)) 0)) 2)
      (quarter_of A (o y (x - 1)) (o (min (y + 1) (h - 1)) (x - 1)) (o y x) (o (min (y + 1) (h - 1)) x)))

  unfoldable pub greens_by : ℕ → ℕ → PlaneOf N → PlaneOf N → PlaneOf N
  greens_by h c l d y = weave (evens_by h (odds_by c l d) d y) (odds_by c l d y)
