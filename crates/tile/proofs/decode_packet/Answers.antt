-- `tile::decode_packet` meets its contract. Assumes nothing.
use Rattle.format.proofs.Accepted.{stream-good}
use Rattle.tile.proofs.PacketLaws.{records-ask, records-laid, records-counted}
use Rattle.tile.proofs.decode_packet.Goals as goal

pub next_records-r-requires : goal.next_records-r-requires
next_records-r-requires c =
    let s = c.args in
    let r = c.requires in
    let e = c.before_first-v.ensures in
    let g = rw c.of-entry.ensures.0 at c.held-h.ensures in
    let y = rw (c.of-entry.ensures.0, c.of-entry.ensures.1) at c.finishing-f.ensures in
    let told = records-ask s.checked.now.stream (stream-good _ s.checked.now.passed) s.z r.0 r.1.0 r.1.1 s.p r.2 c.packet_in-q.result c.packet_in-q.ensures _ g _ y _ e.1 e.2 _ r.3 in
    record { in_bounds = told.0; shape = told.1 }

pub returns : goal.returns
returns c =
    let n = c.next_records-r in
    let s = c.args in
    let r = c.requires in
    let z = s.z in
    let e = c.before_first-v.ensures in
    let t = s.checked.now.stream in
    let good = stream-good _ s.checked.now.passed in
    let q = c.packet_in-q.result in
    let y = c.packet_in-q.ensures in
    let a = rw c.of-entry.ensures.0 at c.held-h.ensures in
    let u = rw (c.of-entry.ensures.0, c.of-entry.ensures.1) at c.finishing-f.ensures in record {
      value = records-counted t good z r.0 r.1.0 r.1.1 s.p r.2 q y _ a _ u _ e.0 e.2 _ n.ensures.value;
      work_after = records-laid t good z r.0 r.1.0 r.1.1 s.p r.2 q y _ a _ u _ e.0 e.2 _ _ n.ensures.work_after;
    }
