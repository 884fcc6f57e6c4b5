-- `recovery::colour_back` meets its contract. Assumes nothing.
use Rattle.std.proofs.Common.{arith, ◌≡◌, ap, ◌∙◌, ℕ, ◌+◌, ◌*◌, ◌/◌, ◌≤◌, length, take}
use Rattle.lists.specs.Lists.{put_at}
use Rattle.format.specs.Sizes.{plane_rows}
use Rattle.format.specs.Recovery.{read_plane}
use Rattle.recovery.proofs.PlaneLaws.{plane-in, copied, copied-long, copied-out}
use Rattle.recovery.proofs.colour_back.Goals.{After-copy, After-rows_of}
use Rattle.recovery.proofs.colour_back.Goals as goal

-- the numbers of the plane
many : (c : After-rows_of) → let z = c.args.b.z in c.rows_of.result * (z.w / 2) ≡ plane_rows z.guarded z.n * (z.w / 2)
many c = ap (λ (n : ℕ). n * (c.args.b.z.w / 2)) c.rows_of.ensures.0

-- there is room for them
room : (c : After-rows_of) → c.args.b.at + c.rows_of.result * (c.args.b.z.w / 2) ≤ length c.args.work.now
room c = omega (arith, many c, plane-in c.args.b.z c.args.b.at _ c.requires.0, c.requires.0.front, c.requires.0.room)

pub copy-requires : goal.copy-requires
copy-requires c = let d = (goal.at.copy-requires c).After-rows_of in (omega (arith, many d, c.requires.1), room d)

-- the numbers of the plane stand in the block
made : (c : After-copy) → let s = c.args in let z = s.b.z in
    c.copy.new.work ≡ put_at s.work.now s.b.at (take (plane_rows z.guarded z.n * (z.w / 2)) s.plane.now)
made c = c.copy.ensures ∙ ap (λ (n : ℕ). put_at c.args.work.now c.args.b.at (take n c.args.plane.now)) (many (goal.at.After-copy c).After-rows_of)

pub returns : goal.returns
returns c =
    let d = (goal.at.returns c).After-copy in
    let z = c.args.b.z in
    let p = c.args.b.at in
    let k = c.requires.0 in
    let plane = c.args.plane.now in
    let i = c.index_back.ensures in
    let out = read_plane (z.w / 2) plane in
    let have : p + plane_rows z.guarded z.n * (z.w / 2) ≤ length c.args.work.now = omega (arith, plane-in z p _ k, k.front, k.room) in
    let rows = copied z p _ k plane c.args.work.now _ p c.requires.1 have (made d) in
    record {
      back = λ j e. record { steps = i.steps j out e rows; details = i.details j out e rows; refusal = i.refusal j out e rows };
      beside = λ n m q r. i.beside n m q r ∙ copied-out z p _ k plane c.args.work.now _ c.requires.1 have (made d) n m q;
      long = i.long ∙ copied-long z p _ k plane c.args.work.now _ c.requires.1 have (made d);
    }
