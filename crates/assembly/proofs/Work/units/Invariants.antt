-- `units` meets its contract. Assumes nothing.
use Rattle.std.proofs.Common.{◌≡◌, ℕ, ◌^◌, ◌<◌, length}
use Rattle.lists.specs.Lists.{fill}
use Rattle.format.specs.Refusals.{each}
use Rattle.refusals.specs.Number.{code_of}
use Rattle.assembly.specs.Tile.{units_in, refusal_in}
use Rattle.assembly.proofs.Work.units.Given as goal

abbrev pub invariant-loop-p : goal.invariant-loop-p
invariant-loop-p l =
    (length l.each ≡ 13) × (l.each ≡ fill l.initial.each l.p (units_in l.self.w l.self.h l.self.numbers.now)) × (code_of l.passes ≡ each (refusal_in l.self.w l.self.h l.self.numbers.now) l.p) × ((k : ℕ) → k < l.p → units_in l.self.w l.self.h l.self.numbers.now k < 2 ^ 48)
