-- `put_record` meets its contract. Assumes nothing.
use Rattle.std.proofs.Common.{arith}
use Rattle.codes.proofs.Laws.{room_after, appends-none}
use Rattle.encoding.specs.Record.{record_in}
use Rattle.encoding.proofs.Records.{length-filled, appends-filled}
use Rattle.encoding.proofs.Rows.put_record.Goals as goal

pub put-requires : goal.put-requires
put-requires c =
    let s = c.args.self in
    let p = c.requires in
    room_after _ _ _ _ _ p.0 (appends-none _ _ p.0) (omega (arith, length-filled (record_in s.cols s.count s.numbers.now)))

pub finish-requires : goal.finish-requires
finish-requires c =
    let s = c.args.self in
    room_after _ _ _ _ _ c.requires.0 c.put.ensures (omega (arith, length-filled (record_in s.cols s.count s.numbers.now)))

pub returns : goal.returns
returns c = (appends-filled _ _ _ _ c.requires.1 c.put.ensures c.finish.ensures.appends, c.finish.ensures.none_held)
