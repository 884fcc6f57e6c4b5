-- `put_stream` meets its contract. Assumes nothing.
use Rattle.std.proofs.Common.{◌≡◌, sym, ◌∙◌, ◌+◌, ◌*◌, length, arith}
use Rattle.format.specs.Packets.{sum}
use Rattle.assembly.specs.Tile.{units_in}
use Rattle.assembly.proofs.Streams.{units-is, sum_is, short, stream-packed}
use Rattle.assembly.proofs.Work.put_stream.Goals.{Start}
use Rattle.assembly.proofs.Work.put_stream.Goals as goal

-- its length, of 128 bytes and the packets
long : (c : Start) → length c.args.out.now ≡ 128 + 16 * sum (units_in c.args.self.w c.args.self.h c.args.self.numbers.now) 13
long c =
    let s = c.args.self in
    let r = c.requires in
    r.long ∙ sym (sum_is s.w s.h r.v s.numbers.now r.holds)

pub split_at_mut-front-requires : goal.split_at_mut-front-requires
split_at_mut-front-requires c = omega (arith, long (goal.at.split_at_mut-front-requires c).Start)

pub put_packets-requires : goal.put_packets-requires
put_packets-requires c =
    let s = c.args.self in
    let r = c.requires in (
      r.measured.units ∙ sym (units-is s.w s.h r.v s.numbers.now r.holds),
      short s.w s.h r.v s.numbers.now r.holds r.accepted,
      omega (arith, long (goal.at.put_packets-requires c).Start, c.split_at_mut-front.ensures.back_len),
    )

pub returns : goal.returns
returns c v h =
    let s = c.args.self in
    let r = c.requires in
    let u = r.measured.units ∙ sym (units-is s.w s.h r.v s.numbers.now r.holds) ∙ units-is s.w s.h v s.numbers.now h in
    stream-packed s.w s.h v s.numbers.now h c.args.sizes.units.each _ _ u c.put_front.ensures c.put_packets.ensures
