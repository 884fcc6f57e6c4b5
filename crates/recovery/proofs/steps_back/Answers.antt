-- `recovery::steps_back` meets its contract. Assumes nothing.
use Rattle.std.proofs.Common.{arith, ◌≡◌, refl, sym, ◌∙◌, subst, ℕ, ◌+◌, ◌-◌}
use mathlib.Core.Path.{transport}
use borrow.Rule.Slice.PartMut.{put_mid}
use Rattle.lists.specs.Lists.{put_at}
use Rattle.refusals.specs.Number.{code_of}
use Rattle.format.specs.Coefficients.{zeros}
use Rattle.format.specs.Sizes.{l1, base}
use Rattle.levels.specs.Block.{group_at}
use Rattle.returning.specs.Return.{packet_size, Held, BaseBeside, BaseReturned}
use Rattle.recovery.specs.Recovered.{ll_step}
use Rattle.recovery.proofs.LevelLaws.{put-zeros}
use Rattle.recovery.proofs.IndexLaws.{packet-takes}
use Rattle.recovery.proofs.Rooms.{held, base-clean, base-long, steps_back}
use Rattle.recovery.proofs.steps_back.Goals.{After-fill}
use Rattle.recovery.proofs.steps_back.Goals as goal

-- group 0's packet is cleared
made : (c : After-fill) → let a = c.args in
    put_mid a.b.at (a.b.at + c.unit.result - a.b.at) a.work.now c.fill.new.self ≡ put_at a.work.now (group_at a.b.z a.b.at base) (zeros (packet_size a.b.z base))
made c =
    let a = c.args in
    let k = c.requires.0 in
    let n : a.b.at + c.unit.result - a.b.at ≡ packet_size a.b.z base = omega (arith, c.unit.ensures, packet-takes a.b.z base k.fits.0.whole k.all) in
    let p : a.b.at ≡ group_at a.b.z a.b.at base = omega arith in
    put-zeros a.work.now c.fill.new.self a.b.at (a.b.at + c.unit.result - a.b.at) (omega (arith, c.unit.ensures, k.front, k.room)) (c.fill.ensures.after (λ y e. e))
    ∙ (λ i. put_at a.work.now (p i) (zeros (n i)))

pub base_back-requires : goal.base_back-requires
base_back-requires c =
    let a = c.args in
    let k = c.requires.0 in
    let n = sym (base-long a.b.z a.b.at _ k a.work.now _ refl (made (goal.at.base_back-requires c).After-fill)) in
    let e = sym c.requires.1 in
    transport (λ i. Held a.b.z a.b.at (n i) × BaseBeside a.b.z a.b.at (e i) (ll_step a.b.z l1) (n i)) (held a.b.z a.b.at _ k, base-clean a.b.z a.b.at _ k _ k.room)

pub returns : goal.returns
returns c =
    let a = c.args in
    steps_back a.b.z a.b.at _ c.requires.0 a.work.now _ refl (made (goal.at.returns c).After-fill) _ _
    (subst (λ (n : ℕ). BaseReturned a.b.z a.b.at n (ll_step a.b.z l1) (put_mid a.b.at (a.b.at + c.unit.result - a.b.at) a.work.now c.fill.new.self) c.base_back.new.work (code_of c.base_back.result)) c.requires.1 c.base_back.ensures)
