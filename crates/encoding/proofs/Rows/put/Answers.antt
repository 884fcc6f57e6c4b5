-- `put` meets its contract. Assumes nothing.
use Rattle.std.proofs.Common.{sym, ◌∙◌}
use Rattle.encoding.proofs.Records.{record-none, record-some}
use Rattle.encoding.proofs.Rows.put.Goals as goal

pub put_each-requires : goal.put_each-requires
put_each-requires g c =
    let s = c.args.self in
    rw (record-some s.cols s.count s.numbers.now (sym c.all_zero.ensures ∙ c.if-not-all_zero.true)) at c.requires

pub returns-then-not-all_zero : goal.returns-then-not-all_zero
returns-then-not-all_zero g c =
    let s = c.args.self in
    rw (record-some s.cols s.count s.numbers.now (sym c.all_zero.ensures ∙ c.if-not-all_zero.true)) c.put_each.ensures

pub returns-else-not-all_zero : goal.returns-else-not-all_zero
returns-else-not-all_zero g c =
    let s = c.args.self in
    rw (record-none s.cols s.count s.numbers.now (sym c.all_zero.ensures ∙ c.if-not-all_zero.false)) (g.met.S.Sink.takes_none _ _ c.requires)
