-- `records::finished_record` meets its contract. Assumes nothing.
use Rattle.std.proofs.Common.{ap, ◌∙◌, mul-le-mul_right, arith}
use Rattle.records.specs.Finished.{finished_by}
use Rattle.records.proofs.finished_record.Goals.{After-fill_record-counts, After-finish_record}
use Rattle.records.proofs.finished_record.Goals as goal

pub finish_record-requires : goal.finish_record-requires
finish_record-requires c =
    let d = (goal.at.finish_record-requires c).After-fill_record-counts in
    let s = d in
    let m = mul-le-mul_right s.args.h.cols s.requires.in_bounds.1 in
    omega (arith, m, s.requires.shape.2, d.fill_record-counts.auto.band)

pub returns : goal.returns
returns c =
    let g = (goal.at.returns c).After-finish_record in
    let d = g in
    let s = d.args in
    let e = d.fill_record-counts.ensures in
    record {
      value = e.value;
      band_after = g.finish_record.ensures ∙ ap (finished_by s.f s.h.cols s.i) e.band_after;
    }
