-- `inspection::payload_at` meets its contract. Assumes nothing.
use Rattle.std.proofs.Common.{sym, ◌+◌, ◌∙◌, arith}
use Rattle.format.proofs.RecordLaws.{payload-on}
use Rattle.inspection.proofs.payload_at.Goals as goal

pub loop-k-preserved : goal.loop-k-preserved
loop-k-preserved c = record {
  place = (λ j. c.loop-k.invariant.place j + c.record_length-at.ensures.0 j) ∙ sym (payload-on c.args.packet.now c.loop-k.k);
  bound = omega (arith, c.record_length-at.ensures.1);
}
