-- `returning::level_back` meets its contract. Assumes nothing.
use Rattle.std.proofs.Common.{◌∙◌, ap, ◌+◌}
use Rattle.refusals.proofs.Laws.{code_of-and-3}
use Rattle.format.specs.Refusals.{◌▷◌}
use Rattle.returning.specs.Return.{band_laid, band_refused, no_edges}
use Rattle.returning.proofs.level_back.Goals as goal

pub returns : goal.returns
returns c =
    let s = c.args in
    let g = s.g in
    let u = s.u in
    let m = s.m in
    let first = c.band_back-a.ensures in
    let second = rw c.none.ensures at c.band_back-b.ensures in
    let third = rw c.none-2.ensures at c.band_back-d.ensures in
    let lh = second.0 ∙ ap (band_laid g.lh g.c u.high u.stride m (no_edges m s.e)) first.0 in
    let two = second.1 ∙ ap (band_refused g.c u.high u.stride m (no_edges m s.e)) first.0 in
    let three = third.1 ∙ ap (band_refused g.c (u.low + g.c) u.stride g.h (no_edges g.h s.e)) lh in (
      third.0 ∙ ap (band_laid g.hl g.c (u.low + g.c) u.stride g.h (no_edges g.h s.e)) lh,
      code_of-and-3 _ _ _ _ _ c.and.ensures c.and-2.ensures ∙ (λ i. first.1 i ▷ two i ▷ three i),
    )
