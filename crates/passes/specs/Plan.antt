-- The plan of the work slice: the sizes of a tile, the slots, and where the rows of a packet stand.
use Rattle.std.specs.Prelude.{◌≡◌, Bool, List, ℕ, ◌+◌, ◌*◌, ◌/◌, ◌%◌, ◌^◌, ◌≤◌, ◌<◌, ℤ}
use Rattle.lists.specs.Lists.{tab}
use Rattle.format.specs.Lifting.{Plane}
use Rattle.format.specs.Sizes.{Tall}
use Rattle.passes.specs.declared.Plan.{Plan}

-- Row r of component c in a packet that stands from `start` on, of rows of w numbers: record after record, in a record component after
-- component, m rows each
unfoldable pub place : ℕ → ℕ → ℕ → ℕ → ℕ → ℕ → ℕ
place start m kind w c r = start + ((r / m * kind + c) * m + r % m) * w

-- row y of a plane of c columns, as a list
abbrev pub line : ℕ → Plane → ℕ → List ℤ
line c p y = tab c (p y)

-- a coded size that is accepted, by its width, document 01's n and whether it is guarded
pub record Sized (g : Bool) (w n : ℕ) : Type 0 where
  pub whole : w % 16 ≡ 0
  pub wide : 16 ≤ w
  pub tall : Tall g n
  pub few : n < 2 ^ 32

-- ---- the work slice in units, a unit being a row of group 0 for each slot. A block has the records of groups 0 to 3, then ll of levels 2 and 3
-- where the records of groups 2 and 3 start, ll of level 2, ll of level 3, and where the block ends
abbrev pub group2_units : ℕ
group2_units = 4

abbrev pub group3_units : ℕ
group3_units = 16

abbrev pub ll2_units : ℕ
ll2_units = 64

abbrev pub ll3_units : ℕ
ll3_units = 68

abbrev pub block_units : ℕ
block_units = 84

-- the length of both ll, and that of a ring of averages, or of group 4's records
abbrev pub ll_units : ℕ
ll_units = 20

abbrev pub final_units : ℕ
final_units = 64

-- where the averages end behind the block, and the length of a work slice
abbrev pub passing_units : ℕ
passing_units = 148

abbrev pub work_units : ℕ
work_units = 256

abbrev pub unit_of : Plan → ℕ
unit_of z = z.slots * (z.w / 16)

-- a ring of three rows, each c numbers of lo and c of hi
abbrev pub three_rows : ℕ → ℕ
three_rows c = 6 * c

-- a block of s slots from `at` on, whose places can be counted
pub record Slots (w s at : ℕ) : Type 0 where
  pub some : 1 ≤ s
  pub few : s < 2 ^ 40
  pub small : at + work_units * (s * (w / 16)) < 2 ^ 63

-- a plan's sizes are those of an accepted tile, and its block can be counted
abbrev pub Fits : Plan → ℕ → Type 0
Fits z at = Sized z.guarded z.w z.n × Slots z.w z.slots at
