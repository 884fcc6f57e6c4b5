-- `put_each` meets its contract. Assumes nothing.
use Rattle.std.proofs.Common.{ap, length, arith}
use Rattle.lists.specs.Lists.{row}
use Rattle.format.specs.Writing.{row_bits}
use Rattle.encoding.specs.Numbers.{line}
use Rattle.encoding.proofs.Records.{rows_none, rows_next, rows-within}
use Rattle.encoding.proofs.Rows.put_each.Goals as goal

pub loop-q-init : goal.loop-q-init
loop-q-init g c =
    let s = c.args.self in
    rw (rows_none (λ q. row_bits s.cols (line (row s.cols s.numbers.now q)))) (g.met.S.Sink.takes_none _ _ c.requires)

pub put_row-requires : goal.put_row-requires
put_row-requires g c =
    let s = c.args.self in
    let fits = rows-within (λ q. row_bits s.cols (line (row s.cols s.numbers.now q))) s.count c.loop-q.q c.loop-q-test.true in
    g.met.S.Sink.can_after _ _ _ _ _ c.requires c.loop-q.invariant (omega (arith, fits, ap length c.row.ensures))

pub loop-q-preserved : goal.loop-q-preserved
loop-q-preserved g c =
    let s = c.args.self in
    let t = rw c.row.ensures at c.put_row.ensures in
    rw (← rows_next (λ q. row_bits s.cols (line (row s.cols s.numbers.now q))) c.loop-q.q) (g.met.S.Sink.takes_both _ _ _ _ _ c.loop-q.invariant t)
