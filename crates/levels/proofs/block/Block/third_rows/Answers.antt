-- `levels::block::Block::third_rows` meets its contract. Assumes nothing.
use Rattle.std.proofs.Common.{◌≡◌, ℕ, ◌*◌, ◌/◌, length, sym, ap, ◌∙◌, subst, arith}
use Rattle.format.specs.Sizes.{l3}
use Rattle.passes.specs.Plan.{three_rows}
use Rattle.passes.specs.Level.{Stands}
use Rattle.levels.proofs.Heights.{highs-3, next-columns}
use Rattle.levels.proofs.InBlock.{placed-stands}
use Rattle.levels.proofs.StepRows.{plane-gives}
use Rattle.levels.proofs.block.Block.third_rows.Goals as goal

pub into_plane-requires : goal.into_plane-requires
into_plane-requires c =
    let s = c.args in
    let p = c.requires in
    let b = s.self in
    let z = b.z in
    let q = c.pass.ensures in
    let f = q.0 in
    let k = f.rows ∙ highs-3 z.guarded z.n in
    let w4 : 2 * s.count * (z.w / 2) ≡ s.count * (4 * (z.w / 4)) = let e = next-columns z.w b.fits.0.whole l3 in rw (← e) (omega arith) in
    let stood = placed-stands z.guarded z.w z.n z.slots b.at b.fits.0 b.fits.1 l3 _ f _ p.fits.0 in (
      omega (arith, k, p.lent.0),
      omega (arith, k, p.lent.1),
      p.fits.1 ∙ ap three_rows (sym f.cols),
      p.lent.2 ∙ w4 ∙ ap (λ (j : ℕ). s.count * (4 * j)) (sym f.cols),
      subst (λ (m : ℕ). Stands c.pass.result.g m (length s.work.now)) (sym q.1) stood,
    )

pub returns : goal.returns
returns c =
    λ ll b near.
    let s = c.args in
    let t = s.self in
    let z = t.z in
    rw c.pass.ensures.2 at c.into_plane.ensures
    ∙ plane-gives z.guarded z.w z.n z.slots t.at t.fits.0 _ c.pass.ensures.0 s.from s.count ll b _ near c.requires.lent.1
