-- `levels::Stage::into_ring` meets its contract. Assumes nothing.
use Rattle.std.proofs.Common.{◌≡◌, ℕ, ◌*◌, length, take, refl, ap}
use Rattle.std.proofs.lemmas.List.{length-take-le}
use Rattle.passes.specs.Plan.{three_rows}
use Rattle.format.specs.Sizes.{detail, columns}
use Rattle.levels.specs.Bands.{level_of}
use Rattle.levels.proofs.StepRows.{level-asks, level-gives}
use Rattle.levels.proofs.Stage.into_ring.Goals as goal

pub steps_in-requires : goal.steps_in-requires
steps_in-requires c =
    let s = c.args in
    let p = c.requires in
    let b = s.b in
    let z = b.z in
    let l = level_of s.self in
    let r = c.pass-p in
    let pairs = ap (λ (k : ℕ). z.slots * k) c.rows.ensures in
    let ring : length (take (6 * r.result.g.c) s.ring.now) ≡ three_rows (columns z.w (detail l)) = rw r.ensures.0.cols (length-take-le _ _ p.block.2) in
    rw r.ensures.2
    (level-asks z b.at b.fits l r.result.g r.ensures.0 r.result.m r.ensures.1 s.out _ pairs s.from s.count p.range.0 p.range.1 _ p.block.1 _ p.block.0 ring)

pub returns : goal.returns
returns c =
    λ ll d near.
    let s = c.args in
    let p = c.requires in
    let b = s.b in
    let z = b.z in
    let l = level_of s.self in
    let r = c.pass-p in
    let pairs = ap (λ (k : ℕ). z.slots * k) c.rows.ensures in
    level-gives z b.at b.fits l r.result.g r.ensures.0 r.result.m r.ensures.1 s.out _ pairs s.from s.count p.range.0 p.range.1 _ p.block.1
    ll d _ _ refl near (rw r.ensures.2 at c.steps_in.ensures)
