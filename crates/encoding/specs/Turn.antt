-- A row's bits turn by turn: a turn writes one group, or a run of zero groups with the width behind it.
use Rattle.std.specs.Prelude.{List, [], ◌++◌, cond, ℕ, ◌+◌, eqb}
use Rattle.format.specs.Lifting.{Signal}
use Rattle.format.specs.Writing.{unary_bits, run_bits, group_width, zero_groups, value_bits, signs_bits, next_bits, groups_bits}

-- a run of k groups, of g, and the width of the next one, if there is one
unfoldable pub run_tail : ℕ → ℕ → ℕ → List ℕ
run_tail g k next = run_bits g k ++ cond (eqb k g) [] (unary_bits next)

module _ (f : Signal) where
  -- the groups that one turn passes, of g from group j on
  unfoldable pub turn_groups : ℕ → ℕ → ℕ
  turn_groups j g = cond (eqb (group_width f j) 0) (zero_groups f j g) 1

  -- its bits behind the values, which a run has in width 0; all its bits
  unfoldable pub tail_bits : ℕ → ℕ → List ℕ
  tail_bits j g =
      cond (eqb (group_width f j) 0) (run_tail g (zero_groups f j g) (group_width f (j + zero_groups f j g))) (next_bits f j g ++ signs_bits f j)

  abbrev pub turn_bits : ℕ → ℕ → List ℕ
  turn_bits j g = value_bits f (group_width f j) j ++ tail_bits j g

  -- the bits of g groups from group j on
  abbrev pub rest_bits : ℕ → ℕ → List ℕ
  rest_bits j g = groups_bits f g j g
