-- `put` meets its contract: a writer for the headers, and one for the payload. Assumes nothing.
use Rattle.std.proofs.Common.{◌≡◌, ◌++◌, ◌+◌, ◌-◌, ◌*◌, ◌/◌, ◌≤◌, length, length-append, rules, arith, ◌∙◌}
use Rattle.format.specs.Writing.{packed}
use Rattle.codes.specs.Wrote.{Appends}
use Rattle.codes.proofs.Laws.{appends-both}
use Rattle.codes.proofs.Finished.{fresh-room}
use Rattle.assembly.specs.Packet.{head_units_of, open_bits, payload_of, heads_of, bits_in}
use Rattle.assembly.proofs.Shapes.{head-some}
use Rattle.assembly.proofs.Whole.{head-units, payload-units, room-whole, filled-whole, packet-packed}
use Rattle.assembly.proofs.packet.Packet.put.Goals.{After-new-payload, After-put_records}
use Rattle.assembly.proofs.packet.Packet.put.Goals as goal

-- the payload's units, and the bytes of both parts
left : (c : After-new-payload) → (length c.args.out.now - c.head_bytes-p.result) / 16 ≡ payload_of c.args.self.shape c.args.self.numbers.now
left c = omega (arith, c.requires.1, c.head_bytes-p.ensures.0)

behind : (c : After-new-payload) → length c.split_at_mut-front.result.1.now ≡ 16 * payload_of c.args.self.shape c.args.self.numbers.now
behind c = omega (arith, c.requires.1, c.head_bytes-p.ensures.0, c.split_at_mut-front.ensures.back_len)

before : (c : After-new-payload) → length c.split_at_mut-front.result.0.now ≡ 16 * head_units_of c.args.self.shape
before c = omega (arith, c.head_bytes-p.ensures.0, c.split_at_mut-front.ensures.front_len)

-- the headers
headers : (c : After-put_records) → Appends c.new-head.result c.put_records.new.head (open_bits c.args.self.shape (payload_of c.args.self.shape c.args.self.numbers.now) ++ heads_of c.args.self.shape c.args.self.numbers.now c.args.self.shape.records)
headers c = appends-both _ _ _ _ _ (rw (left (goal.at.After-put_records c).After-new-payload) at c.put_open.ensures) c.put_records.ensures.heads

all-heads : (c : After-new-payload) → length (open_bits c.args.self.shape (payload_of c.args.self.shape c.args.self.numbers.now)) + length (heads_of c.args.self.shape c.args.self.numbers.now c.args.self.shape.records) ≤ 8 * length c.split_at_mut-front.result.0.now
all-heads c =
    let z = c.args.self.shape in
    let l = c.args.self.numbers.now in
    omega (arith, before c, length-append (open_bits z (payload_of z l)) (heads_of z l z.records), head-units z l)

pub put_open-requires : goal.put_open-requires
put_open-requires c =
    let n = (goal.at.put_open-requires c).After-new-payload in
    (rw (left n) c.requires.2, fresh-room _ _ 128 c.new-head.ensures.fresh (omega (arith, before n, head-some c.args.self.shape c.args.self.sound)))

pub put_records-requires-clause-room : goal.put_records-requires-clause-room
put_records-requires-clause-room c =
    let n = (goal.at.put_records-requires-clause-room c).After-new-payload in
    let z = c.args.self.shape in
    let l = c.args.self.numbers.now in
    let o = rw (left n) at c.put_open.ensures in
    (room-whole _ _ _ _ _ c.new-head.ensures.fresh o (all-heads n), fresh-room _ _ _ c.new-payload.ensures.fresh (omega (arith, behind n, payload-units z l)))

pub fill_up-requires : goal.fill_up-requires
fill_up-requires c =
    let r = (goal.at.fill_up-requires c).After-put_records in
    let n = (goal.at.After-put_records r).After-new-payload in
    let z = c.args.self.shape in
    let l = c.args.self.numbers.now in
    room-whole _ _ _ _ 0 c.new-head.ensures.fresh (headers r) (omega (arith, all-heads n, length-append (open_bits z (payload_of z l)) (heads_of z l z.records)))

pub fill_up-requires-2 : goal.fill_up-requires-2
fill_up-requires-2 c =
    let r = (goal.at.fill_up-requires-2 c).After-put_records in
    let n = (goal.at.After-put_records r).After-new-payload in
    room-whole _ _ _ _ 0 c.new-payload.ensures.fresh c.put_records.ensures.records (omega (arith, behind n, payload-units c.args.self.shape c.args.self.numbers.now))

pub returns : goal.returns
returns c =
    let r = (goal.at.returns c).After-put_records in
    let n = (goal.at.After-put_records r).After-new-payload in
    let z = c.args.self.shape in
    let l = c.args.self.numbers.now in
    let h = filled-whole _ _ _ _ _ (head_units_of z) c.new-head.ensures.fresh (headers r) (before n) (head-units z l) c.fill_up.ensures.filled in
    let t = filled-whole _ _ _ _ _ (payload_of z l) c.new-payload.ensures.fresh c.put_records.ensures.records (behind n) (payload-units z l) c.fill_up-2.ensures.filled in
    let d : c.fill_up.new.self.out.now ++ c.fill_up-2.new.self.out.now ≡ packed (bits_in z l) = (λ i. h i ++ t i) ∙ packet-packed z l in
    search rules
