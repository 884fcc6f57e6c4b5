-- `put_each` meets its contract. Assumes nothing.
use Rattle.encoding.specs.Record.{rows_in}
use Rattle.encoding.proofs.Rows.put_each.Given as goal

abbrev pub invariant-loop-q : goal.invariant-loop-q
invariant-loop-q g l = g.S.Sink.Takes l.initial.s l.s (rows_in l.self.cols l.self.numbers.now l.q)
