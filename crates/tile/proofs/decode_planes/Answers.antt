-- `tile::decode_planes` meets its contract. Assumes nothing.
use Rattle.std.proofs.Common.{◌≡◌, ap, ◌∙◌, ◌+◌, arith}
use Rattle.tile.proofs.GoingLaws.{going_start, going-laid}
use Rattle.tile.proofs.PacketLaws.{counts_by, counts_start, counts_step, counts_all, packet-below, counts-below}
use Rattle.tile.proofs.decode_planes.Goals as goal

pub loop-p-init : goal.loop-p-init
loop-p-init c =
    let s = c.args in
    (c.none-counts.ensures ∙ counts_start s.checked.now.stream, going_start s.checked.now.stream s.z c.requires.1.0 _ _ _ _)

pub plus-counts-requires : goal.plus-counts-requires
plus-counts-requires c =
    let s = c.args.checked.now.stream in
    (counts-below s c.loop-p.p _ (omega (arith, c.loop-p-test.true)) c.loop-p.invariant.0, packet-below s _ _ _ c.decode_packet.ensures.value)

pub loop-p-preserved : goal.loop-p-preserved
loop-p-preserved c =
    let s = c.args in
    let r = c.requires in
    let i = c.loop-p.invariant in
    let p = c.loop-p.p in
    let stream = s.checked.now.stream in
    let z = s.z in
    let one = c.decode_packet in
    let all : 0 + (z.n + 1) ≡ z.n + 1 = omega arith in
    let laid = going-laid stream z r.1.0 p 0 (z.n + 1) c.loop-p-test.true (omega (arith, r.1.1)) _ _ _ _ _ (omega (arith, c.loop-p.auto.work, r.2)) one.ensures.work_after i.1 in
    (c.plus-counts.ensures ∙ counts_step stream p _ _ i.0 one.ensures.value, c.packet_end.ensures stream r.0 (rw all at laid))

pub returns-clause-value : goal.returns-clause-value
returns-clause-value c =
    let n : c.loop-p.p ≡ 13 = omega (arith, c.loop-p.auto.p-end, c.loop-p-test.false) in
    c.loop-p.invariant.0 ∙ ap (counts_by c.args.checked.now.stream) n ∙ counts_all c.args.checked.now.stream
