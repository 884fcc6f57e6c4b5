-- `zero_groups` meets its contract. Assumes nothing.
use Rattle.std.proofs.Common.{◌≡◌, ◌+◌, ◌-◌}
use Rattle.format.specs.Writing.{zero_groups}
use Rattle.encoding.specs.Numbers.{line}
use Rattle.encoding.proofs.Row.zero_groups.Given as goal

abbrev pub invariant-loop-k : goal.invariant-loop-k
invariant-loop-k l =
    zero_groups (line l.self.numbers.now) l.j l.g ≡ l.k + zero_groups (line l.self.numbers.now) (l.j + l.k) (l.g - l.k)
