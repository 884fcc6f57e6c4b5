-- `strip::Frame::entry_tile` meets its contract. Assumes nothing.
use Rattle.std.proofs.Common.{rules, ◌≡◌, ◌+◌, ◌-◌, ◌/◌, refl, ap, ◌∙◌, arith}
use Rattle.std.proofs.iter.runs.Sources.{range_listed}
use Rattle.format.specs.Strip.{candidate, entry_tile, candidates}
use Rattle.strip.proofs.Search.{counts_from_0, found_from}
use Rattle.strip.proofs.Frame.entry_tile.Goals as goal

pub returns : goal.returns
unfolding entry_tile candidates
returns c =
    let f = c.args.self.now in
    let (p, from, found) = c.find_map.ensures.runs in
    let (a, b, first, last, up, each) = range_listed p p.seen in
    let at_start : a ≡ 0 = first ∙ ap (λ r. r.start) from in
    let at_end : b ≡ (c.min-end.result + 16 - c.entry_start-start.result) / 16 = last ∙ ap (λ r. r.end) from ∙ ap (λ n. n / 16) c.saturating_sub-count.ensures in
    let count : b - a ≡ (c.min-end.result + 16 - c.entry_start-start.result) / 16 = omega arith in
    found_from (candidate f.strip.now f.width f.height c.args.i) _ _ _ p.whole p.len c.entry_start-start.result (b - a) p.at c.find_map.result found (λ k g h. search rules) (λ k h. search rules) (λ k y h. search rules) (counts_from_0 p.at p.len a at_start up.3) up.0 up.1
    ∙ rw (count, c.min-end.ensures, c.entry_start-start.ensures.0) refl
