-- `put_values` meets its contract. Assumes nothing.
use Rattle.std.proofs.Common.{◌≡◌, ◌+◌, ◌*◌, append_assoc, arith}
use Rattle.encoding.specs.Numbers.{line}
use Rattle.codes.proofs.Pushed.{length-number}
use Rattle.encoding.proofs.Widths.{width-most, held-0, held-1, held-2, held-3}
use Rattle.encoding.proofs.put_values.Goals as goal

pub pair-a-requires : goal.pair-a-requires
pair-a-requires g c =
    let j = c.args.j in
    let f = line c.args.row.numbers.now in
    let s = c.args.row.small in
    rw c.requires.1 (omega arith, width-most f s j, held-0 f s j, held-1 f s j)

pub pair-b-requires : goal.pair-b-requires
pair-b-requires g c =
    let j = c.args.j in
    let f = line c.args.row.numbers.now in
    let s = c.args.row.small in
    let e : 4 * j + 2 + 1 ≡ 4 * j + 3 = omega arith in
    rw (c.requires.1, e) (omega arith, width-most f s j, held-2 f s j, held-3 f s j)

pub put-requires-else-w-le14-2 : goal.put-requires-else-w-le14-2
put-requires-else-w-le14-2 g c =
    let a = c.pair-a in
    g.met.S.Sink.can_after _ _ _ (4 * c.args.w) c.pair-b.result.n c.requires.2 c.put-else-w-le14.ensures (omega (arith, length-number a.result.n a.result.v, a.ensures.1, c.pair-b.ensures.1))

pub returns-else-w-le14 : goal.returns-else-w-le14
returns-else-w-le14 g c =
    let j = c.args.j in
    let e : 4 * j + 2 + 1 ≡ 4 * j + 3 = omega arith in
    let t = g.met.S.Sink.takes_both _ _ _ _ _ c.put-else-w-le14.ensures c.put-else-w-le14-2.ensures in
    rw (c.pair-a.ensures.0, c.pair-b.ensures.0, e, append_assoc) at t
