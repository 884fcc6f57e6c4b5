-- `recovery::average_rows` meets its contract. Assumes nothing.
use Rattle.std.proofs.Common.{arith, ◌≡◌, refl, ◌∙◌, inr, ◌+◌, ◌*◌, ◌/◌}
use mathlib.Core.Path.{transport}
use Rattle.lists.specs.Lists.{tab, laid}
use Rattle.format.specs.Sizes.{plane_rows}
use Rattle.format.specs.Recovery.{read_plane, d_of, l_of}
use Rattle.undoing.specs.Down.{detail_at, DetailsStand}
use Rattle.recovery.specs.Recovered.{scratch_at}
use Rattle.recovery.proofs.PlaneLaws.{plane-in, plane-long, some-columns, details-in, details-long, details-stand, averages-stand, averages-long}
use Rattle.recovery.proofs.average_rows.Goals.{After-details}
use Rattle.recovery.proofs.average_rows.Goals as goal

pub details-requires : goal.details-requires
details-requires c =
    let z = c.args.z in
    let k = c.requires.0 in
    rw (c.unit-u.ensures, c.rows_of-rows.ensures.0) (some-columns z 0 _ k, plane-long z 0 _ k _ c.requires.1, details-in z 0 _ k)

-- the details stand in the scratch
made : (c : After-details) → let z = c.args.z in
    c.details.new.work ≡ laid (λ y. scratch_at z + detail_at 0 0 y * (z.w / 2)) (λ y. tab (z.w / 2) (d_of (plane_rows z.guarded z.n) (read_plane (2 * (z.w / 2)) c.args.plane.now) y)) c.args.work.now (plane_rows z.guarded z.n)
made c =
    let z = c.args.z in
    c.details.ensures
    ∙ (λ i. laid (λ y. 192 * (c.unit-u.ensures i) + detail_at 0 0 y * (z.w / 2)) (λ y. tab (z.w / 2) (d_of (c.rows_of-rows.ensures.0 i) (read_plane (2 * (z.w / 2)) c.args.plane.now) y)) c.args.work.now (c.rows_of-rows.ensures.0 i))

pub averages-requires : goal.averages-requires
averages-requires c =
    let z = c.args.z in
    let k = c.requires.0 in
    let n = details-long z _ k c.args.plane.now c.args.work.now refl c.details.new.work (made (goal.at.averages-requires c).After-details) in
    let p = plane-in z 0 _ k in
    rw (c.unit-u.ensures, c.rows_of-rows.ensures.0) (plane-long z 0 _ k _ c.requires.1, omega (arith, n, p, k.room), omega (arith, n, p, k.room), inr (omega (arith, p)))

pub returns : goal.returns
returns c =
    let d = made (goal.at.returns c).After-details in
    let z = c.args.z in
    let k = c.requires.0 in
    let plane = c.args.plane.now in
    let work = c.args.work.now in
    let e = c.rows_of-rows.ensures.0 in
    let f = c.unit-u.ensures in
    let stand = details-stand z _ k plane work refl c.details.new.work d in
    let is = transport (λ i. DetailsStand (e i) (z.w / 2) plane c.details.new.work (192 * f i) → c.averages.new.work ≡ laid (λ y. 64 * f i + y * (z.w / 2)) (λ y. tab (z.w / 2) (l_of (e i) (z.w / 2) (read_plane (2 * (z.w / 2)) plane) y)) c.details.new.work (e i)) c.averages.ensures stand in record {
      index_rows = averages-stand z _ k plane work refl c.details.new.work d c.averages.new.work is;
      same_length = averages-long z _ k plane work refl c.details.new.work d c.averages.new.work is;
    }
