-- Header and directory of the stream, from the units of its 13 packets.
use Rattle.std.specs.Prelude.{List, ◌++◌, cond, ℕ, ◌+◌, ◌*◌, ◌/◌, ◌^◌, ◌<◌, get_or, ltb}
use Rattle.lists.specs.Lists.{rows}
use Rattle.format.specs.Packets.{sum}
use Rattle.format.specs.Sizes.{numbered}
use Rattle.format.specs.Writing.{number_bits, zero_bits, entries}

module _ (u : List ℕ) where
  -- the units of packet k of group g; of the group; and as its block has them
  abbrev pub units_at : ℕ → ℕ → ℕ
  units_at g k = get_or u (3 * g + k) 0

  unfoldable pub group_of : ℕ → ℕ
  group_of g = sum (units_at g) (entries (numbered g))

  unfoldable pub entry_of : ℕ → ℕ → ℕ
  entry_of g k = cond (ltb k (entries (numbered g))) (units_at g k) 0

  unfoldable pub block_of : ℕ → List ℕ
  block_of g = zero_bits 4 ++ (number_bits 4 (entries (numbered g)) ++ rows 5 (λ k. number_bits 24 (entry_of g k)))

  -- the group sizes, and the blocks
  abbrev pub sizes_of : ℕ → List ℕ
  sizes_of n = rows n (λ g. number_bits 24 (group_of g))

  abbrev pub blocks_of : ℕ → List ℕ
  blocks_of n = rows n block_of

-- up to the group sizes
abbrev pub named_of : ℕ → ℕ → List ℕ
named_of w H =
    number_bits 32 0x41303030 ++ (number_bits 32 0 ++ (number_bits 16 w ++ (number_bits 16 (H / 2) ++ (number_bits 16 0x0100 ++ number_bits 16 0x6C00))))

-- the header and the directory
abbrev pub front_of : ℕ → ℕ → List ℕ → List ℕ
front_of w H u = named_of w H ++ (sizes_of u 5 ++ (zero_bits 136 ++ blocks_of u 5))

-- sizes that fit their fields
pub record Narrow (u : List ℕ) : Type 0 where
  pub group : (g : ℕ) → g < 5 → group_of u g < 2 ^ 24
