-- `tile::decode_accepted` meets its contract. Assumes nothing.
use Rattle.std.proofs.Common.{refl, sym, ap, ◌∙◌, length-take-le}
use Rattle.format.specs.Sizes.{green, red, blue}
use Rattle.format.specs.Coefficients.{zeros}
use Rattle.tile.proofs.LentLaws.{lent_of, enough, blue-as-red, measured, fitted, full-rows, half-rows, work-in-units, plane-onto, work-onto}
use Rattle.tile.proofs.decode_accepted.Goals as goal

pub slice_bounds-decode_planes-end : goal.slice_bounds-decode_planes-end
slice_bounds-decode_planes-end c = (enough _ c.args.accepted.now.need c.args.accepted.now.needed c.requires).0

pub slice_bounds-decode_planes-end-2 : goal.slice_bounds-decode_planes-end-2
slice_bounds-decode_planes-end-2 c = sym (length-take-le _ _ (enough _ c.args.accepted.now.need c.args.accepted.now.needed c.requires).0)

pub slice_bounds-decode_planes-end-3 : goal.slice_bounds-decode_planes-end-3
slice_bounds-decode_planes-end-3 c = (enough _ c.args.accepted.now.need c.args.accepted.now.needed c.requires).1

pub slice_bounds-decode_planes-end-4 : goal.slice_bounds-decode_planes-end-4
slice_bounds-decode_planes-end-4 c = sym (length-take-le _ _ (enough _ c.args.accepted.now.need c.args.accepted.now.needed c.requires).1)

pub slice_bounds-decode_planes-end-5 : goal.slice_bounds-decode_planes-end-5
slice_bounds-decode_planes-end-5 c = (enough _ c.args.accepted.now.need c.args.accepted.now.needed c.requires).2

pub slice_bounds-decode_planes-end-6 : goal.slice_bounds-decode_planes-end-6
slice_bounds-decode_planes-end-6 c = sym (length-take-le _ _ (enough _ c.args.accepted.now.need c.args.accepted.now.needed c.requires).2)

pub slice_bounds-decode_planes-end-7 : goal.slice_bounds-decode_planes-end-7
slice_bounds-decode_planes-end-7 c = (enough _ c.args.accepted.now.need c.args.accepted.now.needed c.requires).3

pub slice_bounds-decode_planes-end-8 : goal.slice_bounds-decode_planes-end-8
slice_bounds-decode_planes-end-8 c = sym (length-take-le _ _ (enough _ c.args.accepted.now.need c.args.accepted.now.needed c.requires).3)

pub decode_planes-requires : goal.decode_planes-requires
decode_planes-requires c =
    let l = lent_of _ c.args.accepted.now.need c.args.accepted.now.needed c.requires _ _ c.stripes-n.ensures.0 c.guarded.ensures in
    let room = enough _ c.args.accepted.now.need c.args.accepted.now.needed c.requires in (
      measured l,
      (fitted l, refl),
      length-take-le _ _ room.3 ∙ work-in-units l,
      length-take-le _ _ room.0 ∙ full-rows l,
      length-take-le _ _ room.1 ∙ half-rows l,
      length-take-le _ _ room.2 ∙ blue-as-red _ c.args.accepted.now.need c.args.accepted.now.needed ∙ half-rows l,
    )

pub returns : goal.returns
returns c =
    let a = c.args in
    let need = a.accepted.now.need in
    let l = lent_of _ c.args.accepted.now.need c.args.accepted.now.needed c.requires _ _ c.stripes-n.ensures.0 c.guarded.ensures in
    let e = c.decode_planes.ensures in
    let long = length-take-le need.work a.work.now (enough _ c.args.accepted.now.need c.args.accepted.now.needed c.requires).3 in record {
      value = e.value;
      slices_after = (
        plane-onto l green a.full.now _ need.green e.slices_after.0 l.full_is,
        plane-onto l red a.red.now _ need.red e.slices_after.1 l.half_is,
        plane-onto l blue a.blue.now _ need.blue e.slices_after.2 (blue-as-red _ c.args.accepted.now.need c.args.accepted.now.needed ∙ l.half_is),
        work-onto l a.work.now _ need.work (e.slices_after.3 ∙ ap zeros long) l.work_is,
      );
    }
