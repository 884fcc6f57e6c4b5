-- `check` meets its contract. Assumes nothing.
use Rattle.std.proofs.Common.{◌≡◌, ◌*◌, ltb}
use Rattle.format.specs.Refusals.{on, each}
use Rattle.assembly.specs.Front.{group_of}
use Rattle.assembly.proofs.front.Units.check.Given as goal

abbrev pub invariant-loop-g : goal.invariant-loop-g
invariant-loop-g l = each (λ g. on (ltb 268435440 (16 * group_of l.self.each g)) 26) l.g ≡ 0
