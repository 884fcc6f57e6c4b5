-- `green::final_rows` meets its contract. Assumes nothing.
use Rattle.std.proofs.Common.{◌≡◌, ap, ◌∙◌, ℕ, ◌*◌, ◌/◌, arith}
use Rattle.green.specs.Green.{ring_band}
use Rattle.green.proofs.FinalLaws.{details, ring-whole, detail-inner, average-inner, near-rows}
use Rattle.green.proofs.final_rows.Goals.{After-rows_in-d}
use Rattle.green.proofs.final_rows.Goals as goal

-- the band of the details
details-are : (c : After-rows_in-d) → c.rows_in-d.result ≡ details c.args.z c.args.da
details-are c = c.rows_in-d.ensures ∙ ap (ring_band _ _) c.top_of-t.ensures

pub invariant_of-g : goal.invariant_of-g
invariant_of-g c =
    let d = (goal.at.invariant_of-g c).After-rows_in-d in
    let s = c.args in
    let z = s.z in
    let p = c.requires.fits in
    let f = p.0 in
    rw (c.rows_of-r.ensures.0, c.rows_in-l.ensures, details-are d) record {
      within = record {
        columns = omega (arith, f.0.wide);
        details = detail-inner z f s.da s.at p.2;
        averages = average-inner z f s.la s.at p.1;
        detail-band = ring-whole z f s.da _;
        average-band = ring-whole z f s.la _;
      };
    }

pub rows-requires : goal.rows-requires
rows-requires c =
    let s = c.args in
    let z = s.z in
    let p = c.requires.fits in
    let q = c.requires.lent in
    let f = p.0 in
    let wide : z.w ≡ 2 * (z.w / 2) = omega (arith, f.0.whole) in
    rw c.rows_of-r.ensures.0 (
      q.0,
      q.1,
      omega (arith, wide, p.3),
      q.2 ∙ ap (λ (j : ℕ). s.count * j) wide,
    )

pub returns-clause-green_after : goal.returns-clause-green_after
returns-clause-green_after c =
    let d = (goal.at.returns-clause-green_after c).After-rows_in-d in
    let s = c.args in
    let e = rw (c.rows_of-r.ensures.0, c.rows_in-l.ensures, details-are d) at c.rows.ensures in
    λ a b near. e.0 ∙ near-rows s.z c.requires.fits.0 s.la s.da s.from s.count a b s.work.now near c.requires.lent.1
