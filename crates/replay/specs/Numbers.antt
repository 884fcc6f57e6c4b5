-- Lists of numbers that a test compares with.
use Rattle.std.specs.Prelude.{◌≡◌, Bool, true, List, ℕ, ◌*◌, ℤ, pos, length}
use Rattle.lists.specs.Lists.{tab}
use Rattle.wrap32.specs.Cut.{wrap}
use Rattle.format.specs.Bits.{little32}

-- r is true exactly where number i of the list is f i, for every i
abbrev pub Tells : Bool → List ℤ → (ℕ → ℤ) → Type 0
Tells r l f = (r ≡ true → l ≡ tab (length l) f) × (l ≡ tab (length l) f → r ≡ true)

-- word i of b, in two's complement
abbrev pub word_at : List ℕ → ℕ → ℤ
word_at b i = wrap (pos (little32 b (4 * i)))

-- v everywhere
abbrev pub always : ℤ → ℕ → ℤ
always v i = v
