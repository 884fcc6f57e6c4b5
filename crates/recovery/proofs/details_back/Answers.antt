-- `recovery::details_back` meets its contract. Assumes nothing.
use Rattle.std.proofs.Common.{arith, ◌≡◌, refl, sym, ap, ◌∙◌, subst, ℕ, ◌+◌, ◌-◌, ◌*◌, ◌/◌, ◌≤◌, ◌<◌, List, ℤ, length}
use borrow.Rule.Slice.PartMut.{put_mid}
use Rattle.lists.specs.Lists.{tab, put_at, laid}
use Rattle.format.specs.Coefficients.{zeros}
use Rattle.format.specs.Sizes.{plane_rows}
use Rattle.format.specs.Refusals.{each}
use Rattle.format.specs.Recovery.{read_plane, d_of}
use Rattle.passes.specs.Plan.{unit_of}
use Rattle.undoing.specs.Down.{detail_at}
use Rattle.recovery.specs.Recovered.{row_refused, scratch_at, DetailsBack}
use Rattle.recovery.proofs.LevelLaws.{put-zeros}
use Rattle.recovery.proofs.PlaneLaws.{some-columns, plane-long}
use Rattle.recovery.proofs.DetailLaws.{kept, skipped, row_in, cleared-long, details-back}
use Rattle.recovery.proofs.details_back.Goals.{After-fill, After-details, After-kept-e}
use Rattle.recovery.proofs.details_back.Goals as goal

-- the work slice with the scratch cleared
abbrev mid_of : After-fill → List ℤ
mid_of c =
    put_mid (192 * c.unit-u.result) (192 * c.unit-u.result + 64 * c.unit-u.result - 192 * c.unit-u.result) c.args.work.now c.fill.new.self

cleared : (c : After-fill) → mid_of c ≡ put_at c.args.work.now (scratch_at c.args.z) (zeros (64 * unit_of c.args.z))
cleared c =
    let k = c.requires.0 in
    let e = c.unit-u.ensures in
    let v = c.unit-u.result in
    let p : 192 * v ≡ scratch_at c.args.z = ap (λ (n : ℕ). 192 * n) e in
    let n : 192 * v + 64 * v - 192 * v ≡ 64 * unit_of c.args.z = omega (arith, e) in
    put-zeros c.args.work.now c.fill.new.self (192 * v) (192 * v + 64 * v - 192 * v) (omega (arith, e, k.room)) (c.fill.ensures.after (λ y e. e))
    ∙ (λ i. put_at c.args.work.now (p i) (zeros (n i)))

-- each row of the details stands in it
inside : (c : After-fill) (y : ℕ) → let z = c.args.z in y < plane_rows z.guarded z.n
    → scratch_at z + detail_at (kept z.guarded) (skipped z.guarded) y * (z.w / 2) + z.w / 2 ≤ length (mid_of c)
inside c y b =
    let z = c.args.z in
    let k = c.requires.0 in
    let m = row_in z _ k c.requires.1 c.args.plane.now c.args.work.now (mid_of c) (mid_of c) refl (cleared c) y b in
    let n = cleared-long z _ k c.requires.1 c.args.plane.now c.args.work.now (mid_of c) (mid_of c) refl (cleared c) in
    omega (arith, m, n, k.room)

-- where row y goes
goes : (c : After-kept-e) (y : ℕ) → let z = c.args.z in
    192 * c.unit-u.result + detail_at c.kept-e.result.0 c.kept-e.result.1 y * (z.w / 2) ≡ scratch_at z + detail_at (kept z.guarded) (skipped z.guarded) y * (z.w / 2)
goes c y = λ i. 192 * c.unit-u.ensures i + detail_at (c.kept-e.ensures.0 i) (c.kept-e.ensures.1 i) y * (c.args.z.w / 2)

pub details-requires : goal.details-requires
details-requires c =
    let d = (goal.at.details-requires c).After-fill in
    let g = (goal.at.After-fill d).After-kept-e in
    let z = c.args.z in
    let k = c.requires.0 in (
      some-columns z 0 _ k,
      subst (λ (n : ℕ). n * (2 * (z.w / 2)) ≤ length c.args.plane.now) (sym c.rows_of-rows.ensures.0) (plane-long z 0 _ k _ c.requires.2),
      λ y b. omega (arith, goes g y, inside d y (omega (arith, b, c.rows_of-rows.ensures.0))),
    )

-- the details stand there
made : (c : After-details) → let z = c.args.z in
    c.details.new.work ≡ laid (λ y. scratch_at z + detail_at (kept z.guarded) (skipped z.guarded) y * (z.w / 2)) (λ y. tab (z.w / 2) (d_of (plane_rows z.guarded z.n) (read_plane (2 * (z.w / 2)) c.args.plane.now) y)) (mid_of (goal.at.After-details c).After-fill) (plane_rows z.guarded z.n)
made c =
    let d = (goal.at.After-details c).After-fill in
    let g = (goal.at.After-fill d).After-kept-e in
    let z = c.args.z in
    c.details.ensures
    ∙ (λ i. laid (λ y. goes g y i) (λ y. tab (z.w / 2) (d_of (c.rows_of-rows.ensures.0 i) (read_plane (2 * (z.w / 2)) c.args.plane.now) y)) (mid_of d) (c.rows_of-rows.ensures.0 i))

back : (c : After-details) → let z = c.args.z in
    (n : ℕ) → n ≡ each (row_refused c.details.new.work (scratch_at z) (kept z.guarded) (skipped z.guarded) (z.w / 2)) (plane_rows z.guarded z.n)
    → DetailsBack z c.args.plane.now c.args.work.now c.details.new.work n
back c =
    let d = (goal.at.After-details c).After-fill in
    details-back c.args.z _ c.requires.0 c.requires.1 c.args.plane.now c.args.work.now (mid_of d) c.details.new.work refl (cleared d) (made c)

pub check_rows-requires : goal.check_rows-requires
check_rows-requires c =
    let h = (goal.at.check_rows-requires c).After-details in
    let d = (goal.at.After-details h).After-fill in
    let g = (goal.at.After-fill d).After-kept-e in
    let k = c.requires.0 in
    let m = cleared-long c.args.z _ k c.requires.1 c.args.plane.now c.args.work.now (mid_of d) (mid_of d) refl (cleared d) in (
      some-columns c.args.z 0 _ k,
      λ y b. omega (arith, goes g y, inside d y (omega (arith, b, c.rows_of-rows.ensures.0)), m, (back h _ refl).long),
    )

pub returns : goal.returns
returns c =
    let h = (goal.at.returns c).After-details in
    let z = c.args.z in
    back h _
    (c.check_rows.ensures
    ∙ (λ i. each (row_refused c.details.new.work (192 * c.unit-u.ensures i) (c.kept-e.ensures.0 i) (c.kept-e.ensures.1 i) (z.w / 2)) (c.rows_of-rows.ensures.0 i)))
