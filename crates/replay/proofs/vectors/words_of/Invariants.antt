-- `vectors::words_of` meets its contract: the first i are the head's words. Assumes nothing.
use Rattle.std.proofs.Common.{◌≡◌, ◌*◌}
use Rattle.lists.specs.Lists.{fill}
use Rattle.format.specs.Bits.{little32}
use Rattle.replay.proofs.vectors.words_of.Given as goal

abbrev pub invariant-loop-i : goal.invariant-loop-i
invariant-loop-i l = l.w-items ≡ fill l.initial.w-items l.i (λ k. little32 l.head (4 * k))
