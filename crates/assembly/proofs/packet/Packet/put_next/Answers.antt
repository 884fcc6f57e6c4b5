-- `put_next` meets its contract. Assumes nothing.
use Rattle.std.proofs.Common.{◌≡◌, ◌-◌, arith}
use Rattle.encoding.proofs.Records.{length-filled}
use Rattle.assembly.specs.Packet.{bits_of, bytes_of}
use Rattle.assembly.proofs.packet.Packet.put_next.Goals as goal

pub put_record-requires : goal.put_record-requires
put_record-requires c = rw c.record.ensures (c.requires.room.1, c.requires.sound.2)

pub new-requires : goal.new-requires
new-requires c =
    let s = c.args.self in
    let a = rw c.record.ensures at c.put_record.ensures.0 in
    (omega arith, omega (arith, a.on, c.put_record.ensures.1, c.requires.sound, length-filled (bits_of s.shape s.numbers.now c.args.k)))

pub returns-clause-header : goal.returns-clause-header
returns-clause-header c =
    let s = c.args.self in
    let a = rw c.record.ensures at c.put_record.ensures.0 in
    let n : c.put_record.new.w.place - c.args.payload.now.place ≡ bytes_of s.shape s.numbers.now c.args.k = omega (arith, a.on, c.put_record.ensures.1, c.requires.sound, length-filled (bits_of s.shape s.numbers.now c.args.k)) in
    let e = c.new.ensures in
    rw (c.then.ensures.1, e.0, e.1, n, c.zeros.ensures.1) at c.put.ensures

pub returns-clause-record_after : goal.returns-clause-record_after
returns-clause-record_after c = rw c.record.ensures at c.put_record.ensures
