-- `bytes` meets its contract. Assumes nothing.
use Rattle.std.proofs.Common.{arith}
use Rattle.encoding.proofs.Lengths.{length-record}
use Rattle.encoding.proofs.Rows.bytes.Goals as goal

pub put-requires : goal.put-requires
put-requires c =
    let s = c.args.self in
    record { room = omega (arith, length-record s.cols s.count s.numbers.now s.narrow s.long s.small, s.few) }

pub returns : goal.returns
returns c =
    let s = c.args.self in
    let n = c.put.ensures.on in
    (omega (arith, n, c.div_ceil.ensures), omega (arith, n, c.div_ceil.ensures, length-record s.cols s.count s.numbers.now s.narrow s.long s.small, s.few))
