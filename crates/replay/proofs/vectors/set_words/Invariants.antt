-- `vectors::set_words` meets its contract: the first i numbers are words, the rest is as it was. Assumes nothing.
use Rattle.std.proofs.Common.{◌≡◌}
use Rattle.lists.specs.Lists.{fill}
use Rattle.replay.specs.Numbers.{word_at}
use Rattle.replay.proofs.vectors.set_words.Given as goal

abbrev pub invariant-loop-i : goal.invariant-loop-i
invariant-loop-i l = l.numbers ≡ fill l.initial.numbers l.i (word_at l.b)
