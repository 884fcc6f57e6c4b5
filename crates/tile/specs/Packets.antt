-- The 13 packets of a tile: where their records stand in the work slice of a whole tile, how they are finished, what they count.
use Rattle.std.specs.Prelude.{◌≡◌, false, cond, List, ℕ, ◌+◌, ◌*◌, ◌%◌, ℤ}
use Rattle.lists.specs.Lists.{laid}
use Rattle.format.specs.Coefficients.{coefs}
use Rattle.format.specs.Counts.{group_count, broken_of, spent_of}
use Rattle.format.specs.Used.{group_used, bits_of}
use Rattle.format.specs.Sizes.{Colour, l1, l2, l3, Group, base, detail, final, group_in, colour_in, multiplier, columns, stripes, guarded}
use Rattle.format.specs.Strip.{width, coded_height}
use Rattle.format.specs.Table.{mode}
use Rattle.passes.specs.declared.Plan.{Plan}
use Rattle.passes.specs.Plan.{Fits}
use Rattle.records.specs.declared.Counts.{Counts}
use Rattle.records.specs.declared.Finish.{Finish}
use Rattle.records.specs.declared.Finish.TheVariants.{Sums, Edges, Nothing}
use Rattle.records.specs.declared.Held.{Held}
use Rattle.levels.specs.Block.{stood, record_size, record_lines, group_at}

-- a plan of a stream's sizes
pub record Measured (s : List ℕ) (z : Plan) : Type 0 where
  pub wide : z.w ≡ width s
  pub tall : z.n ≡ stripes (coded_height s)
  pub guard : z.guarded ≡ guarded (coded_height s)

-- a plan of a whole tile: its block starts the work slice, and its slots hold all records
abbrev pub Whole : Plan → Type 0
Whole z = Fits z 0 × (z.slots ≡ z.n + 1)

-- ---- as the code has it
-- where a group's records are held, in a block from `at` on
abbrev pub held_of : Plan → ℕ → Group → Held
held_of z at m = record { m = multiplier m; cols = columns z.w m; slots = z.slots; at = group_at z at m }

-- how a group's records are finished
abbrev pub finish_of : Plan → Group → Colour → Finish
finish_of z base i = Sums
finish_of z (detail l1) i = Nothing
finish_of z (detail l2) i = Edges (record { first = cond z.guarded 1 2; count = 1; last = cond z.guarded 0 z.n; odd = false })
finish_of z (detail l3) i = Edges (record { first = cond z.guarded 2 4; count = cond z.guarded 1 2; last = z.n; odd = mode l3 i })
finish_of z final i = Nothing

-- the counts of a packet's records, and of the tile's
abbrev pub group_counts : List ℕ → Group → Colour → Counts
group_counts s g i = record { broken = group_count 1 s g i; spent = group_count 2 s g i; bits = group_used s g i }

abbrev pub tile_counts : List ℕ → Counts
tile_counts s = record { broken = broken_of s; spent = spent_of s; bits = bits_of s }

-- ---- in document 01's words
-- the work slice with `count` records of packet p from record `from` on laid into it, finished
abbrev pub packet_laid : List ℕ → Plan → ℕ → ℕ → ℕ → List ℤ → List ℤ
packet_laid s z p from count work =
    laid
    (λ k. group_at z 0 (group_in p) + (from + k) % z.slots * record_size z.w (group_in p))
    (λ k. record_lines z.w (group_in p) (stood z.guarded z.n (coefs s) (group_in p) (colour_in p)) (from + k))
    work
    count
