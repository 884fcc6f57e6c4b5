-- `tile::packet_end` meets its contract. Assumes nothing.
use Rattle.std.proofs.Common.{refl, sym, ap, ◌∙◌, arith}
use Rattle.format.specs.Coefficients.{coefs}
use Rattle.format.specs.Sizes.{green, red, blue}
use Rattle.fields.specs.Kinds.{group_of, colour_of}
use Rattle.tile.proofs.EndLaws.{last_of, final_of, before_last}
use Rattle.tile.proofs.GoingLaws.{going_on, index-records, averages-end, red-end, blue-end, near-green, green-end}
use Rattle.tile.proofs.packet_end.Goals as goal

pub returns-in-Green : goal.returns-in-Green
returns-in-Green c =
    λ t m g.
    let s = c.args in
    let p = c.requires in
    let e = c.of-entry.ensures in
    let is = last_of s.p p.1 green (sym e.0 ∙ ap group_of c.in-Third.is) (sym e.1 ∙ ap colour_of c.in-Green.is) in
    let x = rw is at g in
    let records = index-records t s.z p.0.0 _ _ _ _ 3 (omega arith) refl x in
    rw is (averages-end t s.z p.0.0 m _ _ s.full.now _ _ _ (rw c.unit-u.ensures at (c.averages.ensures (coefs t) green records)))

pub returns-in-Red : goal.returns-in-Red
returns-in-Red c =
    λ t m g.
    let s = c.args in
    let p = c.requires in
    let e = c.of-entry.ensures in
    let is = last_of s.p p.1 red (sym e.0 ∙ ap group_of c.in-Third.is) (sym e.1 ∙ ap colour_of c.in-Red.is) in
    let x = rw is at g in
    let records = index-records t s.z p.0.0 _ _ _ _ 7 (omega arith) refl x in
    let done = c.colour_plane.ensures (coefs t) red records in
    rw is (red-end t s.z p.0.0 m _ _ _ _ _ _ x _ done.0 done.1)

pub returns-in-Blue : goal.returns-in-Blue
returns-in-Blue c =
    λ t m g.
    let s = c.args in
    let p = c.requires in
    let e = c.of-entry.ensures in
    let is = last_of s.p p.1 blue (sym e.0 ∙ ap group_of c.in-Third.is) (sym e.1 ∙ ap colour_of c.in-Blue.is) in
    let x = rw is at g in
    let records = index-records t s.z p.0.0 _ _ _ _ 11 (omega arith) refl x in
    let done = c.colour_plane-in-Blue.ensures (coefs t) blue records in
    rw is (blue-end t s.z p.0.0 m _ _ _ _ _ _ x _ done.0 done.1)

pub returns-in-Final : goal.returns-in-Final
returns-in-Final c =
    λ t m g.
    let s = c.args in
    let p = c.requires in
    let e = c.of-entry.ensures in
    let is = final_of s.p p.1 (sym e.0 ∙ ap group_of c.in-Final.is) in
    let x = rw is at g in
    let near = near-green t s.z p.0.0 m p.0.1 _ _ _ _ x in
    let made = rw (c.unit-u.ensures, c.rows_of.ensures.0) at c.final_rows.ensures.green_after in
    let same = rw c.unit-u.ensures at c.final_rows.ensures.same_below in
    rw is (green-end t s.z p.0.0 m p.0.1 _ _ _ _ x _ _ same (made _ _ near))

pub returns-in_default : goal.returns-in_default
returns-in_default c =
    λ t m g.
    let s = c.args in
    let low = before_last s.p c.requires.1 _ c.of-entry.ensures.0 c.in_default.not-Third c.in_default.not-Final in
    going_on t s.z c.requires.0.0 _ _ _ _ s.p low.0 low.1 g
