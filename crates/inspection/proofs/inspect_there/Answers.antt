-- `inspection::inspect_there` meets its contract. Assumes nothing.
use Rattle.std.proofs.Common.{ap, ◌∙◌, ◌++◌, ◌*◌, drop}
use Rattle.format.specs.Reader.{allowance}
use Rattle.records.proofs.Walk.{counts-payload, numbers-payload}
use Rattle.records.specs.Record.{counts_from, numbers_from}
use Rattle.inspection.proofs.inspect_there.Goals as goal

pub returns-clause-value : goal.returns-clause-value
returns-clause-value c =
    let x = c.args in
    let p = x.packet.now in
    let n = c.record_length-bytes.ensures.0 in
    let counts = c.decode_record-counts.ensures.value ∙ ap (counts_from p x.shape.m x.shape.cols x.i) c.payload_at-offset.ensures.0 ∙ counts-payload p x.shape.m x.shape.cols x.i in
    λ j. record {
      refusal = 0;
      bytes = n j;
      allowance = (c.allowance.ensures ∙ ap allowance n) j;
      bits = (counts j).bits;
      broken = (counts j).broken;
      spent = (counts j).spent;
    }

pub returns-clause-band_after : goal.returns-clause-band_after
returns-clause-band_after c =
    let x = c.args in
    let p = x.packet.now in
    let numbers = c.decode_record-counts.ensures.band_after ∙ ap (numbers_from p x.shape.m x.shape.cols x.i) c.payload_at-offset.ensures.0 ∙ numbers-payload p x.shape.m x.shape.cols x.i in
    λ j. numbers j ++ drop (c.kind.ensures.0 j * x.shape.m * x.shape.cols) x.band.now
