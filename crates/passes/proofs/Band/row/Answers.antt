-- `passes::Band::row` meets its contract. Assumes nothing.
use Rattle.std.proofs.Common.{◌≡◌, ◌+◌, ◌*◌, sym, ◌∙◌, arith}
use Rattle.passes.specs.Plan.{place}
use Rattle.passes.specs.Level.{band_at}
use Rattle.passes.proofs.PlaceLaws.{band-is, order_below, place_is}
use Rattle.passes.proofs.Band.row.Goals.{After-wrapped-r}
use Rattle.passes.proofs.Band.row.Goals as goal

-- the place of the component's row, as the code has both
is : (c : After-wrapped-r) → let b = c.args.self in band_at b c.args.c c.args.y ≡ place b.start b.rows b.components c.args.c c.run-component.result.0 c.wrapped-r.result
is c =
    let s = c.args in
    let d = c.run-component.ensures in
    rw (c.wrapped-r.ensures, d.0, d.1) (band-is s.self s.c s.y)

pub order-requires : goal.order-requires
order-requires c =
    let d = (goal.at.order-requires c).After-wrapped-r in
    let s = c.args in
    let b = s.self in
    (omega (arith, order_below b.start b.rows b.components s.c c.run-component.result.0 c.wrapped-r.result c.requires.2, is d, c.requires.0), c.requires.3)

pub overflow_mul-result : goal.overflow_mul-result
overflow_mul-result c =
    let d = (goal.at.overflow_mul-result c).After-wrapped-r in
    let s = c.args in
    let b = s.self in
    rw c.order.ensures (omega (arith, place_is b.start b.rows b.components s.c c.run-component.result.0 c.wrapped-r.result, is d, c.requires.0))

pub overflow_add-result : goal.overflow_add-result
overflow_add-result c =
    let d = (goal.at.overflow_add-result c).After-wrapped-r in
    let s = c.args in
    let b = s.self in
    rw c.order.ensures (omega (arith, place_is b.start b.rows b.components s.c c.run-component.result.0 c.wrapped-r.result, is d, c.requires.0))

pub returns : goal.returns
returns c =
    let d = (goal.at.returns c).After-wrapped-r in
    let s = c.args in
    let b = s.self in
    (λ i. b.start + c.order.ensures i * s.c) ∙ sym (place_is b.start b.rows b.components s.c c.run-component.result.0 c.wrapped-r.result) ∙ sym (is d)
