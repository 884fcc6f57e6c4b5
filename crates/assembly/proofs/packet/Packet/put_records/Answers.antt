-- `put_records` meets its contract. Assumes nothing.
use Rattle.codes.proofs.Laws.{appends-none, appends-both, room_after}
use Rattle.encoding.proofs.Records.{rows_none, rows_next, rows-within}
use Rattle.format.specs.Writing.{filled}
use Rattle.assembly.specs.Packet.{head_of, bits_of, bytes_of}
use Rattle.assembly.proofs.Shapes.{few_bytes, length-head}
use Rattle.assembly.proofs.packet.Packet.put_records.Goals as goal
use Rattle.std.proofs.Common.{arith}

pub loop-k-init : goal.loop-k-init
loop-k-init c =
    let s = c.args.self in
    let r = c.requires.room in (
      rw (rows_none (λ k. head_of s.shape (bytes_of s.shape s.numbers.now k))) (appends-none _ _ r.0),
      rw (rows_none (λ k. filled 8 (bits_of s.shape s.numbers.now k))) (appends-none _ _ r.1),
      c.requires.sound.1,
    )

pub put_next-requires-clause-sound : goal.put_next-requires-clause-sound
put_next-requires-clause-sound c =
    let s = c.args.self in
    (c.loop-k-test.true, few_bytes s.shape s.numbers.now c.loop-k.k c.requires.sound.0 c.loop-k-test.true, c.loop-k.invariant.2)

pub put_next-requires-clause-room : goal.put_next-requires-clause-room
put_next-requires-clause-room c =
    let s = c.args.self in
    let z = s.shape in
    let k = c.loop-k.k in
    let i = c.loop-k.invariant in
    let h = rows-within (λ k. head_of z (bytes_of z s.numbers.now k)) z.records k c.loop-k-test.true in
    let r = rows-within (λ k. filled 8 (bits_of z s.numbers.now k)) z.records k c.loop-k-test.true in
    (room_after _ _ _ _ _ c.requires.room.0 i.0 (omega (arith, h, length-head z (bytes_of z s.numbers.now k))), room_after _ _ _ _ _ c.requires.room.1 i.1 r)

pub loop-k-preserved : goal.loop-k-preserved
loop-k-preserved c =
    let s = c.args.self in
    let z = s.shape in
    let k = c.loop-k.k in
    let i = c.loop-k.invariant in
    let e = c.put_next.ensures in (
      rw (← rows_next (λ k. head_of z (bytes_of z s.numbers.now k)) k) (appends-both _ _ _ _ _ i.0 e.header),
      rw (← rows_next (λ k. filled 8 (bits_of z s.numbers.now k)) k) (appends-both _ _ _ _ _ i.1 e.record_after.0),
      e.record_after.1,
    )
