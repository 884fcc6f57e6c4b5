-- `packets::records::check_records` meets its contract. Assumes nothing.
use Rattle.std.proofs.Common.{refl, arith}
use Rattle.format.specs.Packets.{blocks}
use Rattle.format.specs.Refusals.{record_refusal}
use Rattle.format.proofs.TurnLaws.{each_none, each_on, refused}
use Rattle.format.proofs.RecordLaws.{eleven, eighteen, record-good, payload-on}
use Rattle.packets.proofs.records.check_records.Goals as goal

pub loop-i-init : goal.loop-i-init
loop-i-init c = record {
  passed = each_none (record_refusal c.args.packet.now);
  place = c.first_payload-at.ensures.0;
  bound = c.first_payload-at.ensures.1;
}

pub returns-then-len-record_bit : goal.returns-then-len-record_bit
returns-then-len-record_bit c =
    let p = c.args.packet.now in
    let l = c.loop-i in
    refused (record_refusal p) l.i (blocks p) 10 l.invariant.passed
    (eleven p l.i (rw (← c.len.ensures, ← c.record_bit.ensures.0) c.if-len-record_bit.true))
    (rw (← c.blocks-i-end.ensures.0) (omega arith))

pub returns-then-len-at : goal.returns-then-len-at
returns-then-len-at c =
    let p = c.args.packet.now in
    let l = c.loop-i in
    refused (record_refusal p) l.i (blocks p) 17 l.invariant.passed
    (eighteen p l.i (rw (← c.len.ensures, ← c.record_bit.ensures.0) c.if-len-record_bit.false) (rw (← c.len-in-loop-i.ensures, ← l.invariant.place, ← c.record_length-n.ensures.0) c.if-len-at.true))
    (rw (← c.blocks-i-end.ensures.0) (omega arith))

pub loop-i-preserved : goal.loop-i-preserved
loop-i-preserved c =
    let p = c.args.packet.now in
    let l = c.loop-i in
    let long = c.record_length-n.ensures in record {
      passed = each_on (record_refusal p) l.i l.invariant.passed (record-good p l.i (rw (← c.len.ensures, ← c.record_bit.ensures.0) c.if-len-record_bit.false) (rw (← c.len-in-loop-i.ensures, ← l.invariant.place, ← long.0) c.if-len-at.false));
      place = rw (payload-on p l.i, ← l.invariant.place, ← long.0) refl;
      bound = omega (arith, long.1);
    }
