-- The words that are read of the input.
use Rattle.std.specs.Prelude.{◌≡◌, Option, List, ℕ, ◌*◌, length}
use Rattle.std.specs.Io.KnownBytes.{Consumes}
use Rattle.lists.specs.Lists.{tab}
use Rattle.format.specs.Bits.{little32}

-- from before to after, n bytes of the input were taken, of which P tells
abbrev pub Takes : Option (List ℕ) → Option (List ℕ) → ℕ → (List ℕ → Type 0) → Type 0
Takes before after n P = (b : List ℕ) × Consumes before after b × (length b ≡ n) × P b

-- the eleven words that the bytes of a head are; past their end they are 0
abbrev pub head_words : List ℕ → List ℕ
head_words b = tab 11 (λ i. little32 b (4 * i))
