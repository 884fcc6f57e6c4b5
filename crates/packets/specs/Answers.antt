-- What the code's answers are by document 01, case by case.
use Rattle.std.specs.Prelude.{Result, Ok, Err, ◌||◌, ℕ, ltb}
use Rattle.format.specs.Refusals.{on}
use Rattle.format.specs.Tile as tile
use Rattle.refusals.specs.declared.Refusal.{Refusal}
use Rattle.refusals.specs.Number.{number_of}
use Rattle.packets.specs.declared.Lengths.{Lengths}

-- what an answer tells, as document 01 has it: no refusal and the lengths, or the refusal with every other field 0
abbrev pub told : Result Lengths Refusal → tile.Lengths
told (Ok n) = record {
  refusal = 0;
  width = n.size.width;
  height = n.size.height;
  rows = n.rows;
  green = n.green;
  red = n.red;
  blue = n.blue;
  work = n.work;
}
told (Err r) = record { refusal = number_of r; width = 0; height = 0; rows = 0; green = 0; red = 0; blue = 0; work = 0 }

-- 4 where a lent slice, so long, is shorter than needed
unfoldable pub short_of : Lengths → ℕ → ℕ → ℕ → ℕ → ℕ
short_of need green_n red_n blue_n work_n =
    on (ltb green_n need.green || ltb red_n need.red || ltb blue_n need.blue || ltb work_n need.work) 4
