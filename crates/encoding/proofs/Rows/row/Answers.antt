-- `row` meets its contract. Assumes nothing.
use Rattle.std.proofs.Common.{◌*◌, refl}
use Rattle.encoding.proofs.Records.{row-bits}
use Rattle.encoding.proofs.Rows.row.Goals as goal

pub returns : goal.returns
returns c =
    let s = c.args.self in
    row-bits s.numbers.now s.cols s.count c.args.q (c.args.q * s.cols) s.long c.requires refl
