-- What stands in the lent slices on the way through a tile.
use Rattle.std.specs.Prelude.{◌≡◌, List, ℕ, ◌+◌, ◌*◌, ◌%◌, ◌≤◌, ◌<◌, ℤ}
use Rattle.wrap32.specs.Arithmetic.{wrapping}
use Rattle.format.specs.Coefficients.{coefs}
use Rattle.format.specs.Sizes.{Colour, green, red, blue, Group, number, group_in, colour_in, plane_rows}
use Rattle.format.specs.Strip.{width, coded_height}
use Rattle.format.specs.Synthesis.{planes}
use Rattle.passes.specs.declared.Plan.{Plan}
use Rattle.passes.specs.Plan.{unit_of, block_units, passing_units}
use Rattle.levels.specs.Block.{Stood, group_at, Outcomes}

-- the plane of an index of a stream
abbrev pub decoded_plane : List ℕ → Colour → List ℤ
decoded_plane s i = planes wrapping (width s) (coded_height s) (coefs s) i

-- where green's averages stand, behind the block; and the two rows of the final green in passing, behind them
abbrev pub averages_at : Plan → ℕ
averages_at z = block_units * unit_of z

abbrev pub passing_at : Plan → ℕ
passing_at z = passing_units * unit_of z

-- p packets and i records of the next are decoded: the groups of that packet's index before it stand, and so do its first i records, green's
-- averages from packet 4 on, and the planes that are done
pub record Going (s : List ℕ) (z : Plan) (p i : ℕ) (work full reds blues : List ℤ) : Type 0 where
  pub whole : (m : Group) → number m < p % 4 → p < 12 → Stood z (coefs s) m (colour_in p) (group_at z 0 m) 0 (z.n + 1) work
  pub begun : Stood z (coefs s) (group_in p) (colour_in p) (group_at z 0 (group_in p)) 0 i work
  pub averages : 4 ≤ p → Outcomes z (coefs s) green (averages_at z) 0 (plane_rows z.guarded z.n) work
  pub red-done : 8 ≤ p → reds ≡ decoded_plane s red
  pub blue-done : 12 ≤ p → blues ≡ decoded_plane s blue
  pub green-done : 13 ≤ p → full ≡ decoded_plane s green
