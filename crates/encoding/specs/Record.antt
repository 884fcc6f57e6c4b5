-- A record from the list of its numbers: rows of one length, one after the other.
use Rattle.std.specs.Prelude.{List, [], cond, ℕ, ℤ, nat_abs, length, eqb}
use Rattle.lists.specs.Lists.{rows, row}
use Rattle.format.specs.Packets.{sum}
use Rattle.format.specs.Writing.{row_bits}
use Rattle.encoding.specs.Numbers.{line}

-- the sum of the magnitudes of a list
unfoldable pub total : List ℤ → ℕ
total l = sum (λ x. nat_abs (line l x)) (length l)

-- the bits of n rows of a list; none where all numbers are 0
abbrev pub rows_in : ℕ → List ℤ → ℕ → List ℕ
rows_in cols l n = rows n (λ q. row_bits cols (line (row cols l q)))

unfoldable pub record_in : ℕ → ℕ → List ℤ → List ℕ
record_in cols n l = cond (eqb (total l) 0) [] (rows_in cols l n)
