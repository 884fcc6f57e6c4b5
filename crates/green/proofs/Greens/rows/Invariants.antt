-- `green::Greens::rows` meets its contract: k rows are written, and the odd greens of row from + k stand at a. Assumes nothing.
use Rattle.std.proofs.Common.{◌≡◌, ◌+◌, ◌*◌, ◌≤◌, ◌<◌}
use Rattle.lists.specs.Lists.{part, over, Apart, SameBelow}
use Rattle.green.specs.Green.{odd_g, full_g}
use Rattle.green.proofs.Greens.rows.Given as goal

abbrev pub invariant-loop-k : goal.invariant-loop-k
invariant-loop-k l = record {
  a_in : (l.self.at ≤ l.a) × (l.a ≤ l.self.at + l.self.c);
  b_in : (l.self.at ≤ l.b) × (l.b ≤ l.self.at + l.self.c);
  apart : Apart l.a l.self.c l.b l.self.c;
  below : SameBelow l.self.at l.work l.fn.work;
  here : l.from + l.k < l.self.r → part l.work l.a l.self.c ≡ odd_g l.fn.work l.self.d l.self.l l.self.c (l.from + l.k);
  made : l.green ≡ over (2 * l.self.c) l.initial.green l.k (λ j. full_g l.fn.work l.self.d l.self.l l.self.c l.self.r (l.from + j));
}
