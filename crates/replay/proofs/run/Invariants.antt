-- `replay::run` meets its contract: every case is counted once. Assumes nothing.
use Rattle.std.proofs.Common.{◌≡◌, length}
use Rattle.replay.specs.Tally.{total, counts_of}
use Rattle.replay.proofs.run.Given as goal

abbrev pub invariant-loop : goal.invariant-loop
invariant-loop g l = (length l.tally ≡ 8) × (total (counts_of l.tally) ≡ l.counter)
