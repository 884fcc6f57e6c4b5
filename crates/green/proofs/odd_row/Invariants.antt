-- `green::odd_row` meets its contract: the first x places hold the formula. Assumes nothing.
use Rattle.std.proofs.Common.{◌≡◌, length}
use Rattle.lists.specs.Lists.{fill}
use Rattle.green.specs.Green.{odd_at}
use Rattle.green.proofs.odd_row.Given as goal

abbrev pub invariant-loop-x : goal.invariant-loop-x
invariant-loop-x l = l.dst ≡ fill l.initial.dst l.x (odd_at (length l.l) l.l l.p l.q)
