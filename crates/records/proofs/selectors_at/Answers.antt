-- `selectors_at` meets its contract. Assumes nothing.
use Rattle.std.proofs.Common.{◌∙◌, ◌+◌, arith}
use Rattle.records.proofs.Walk.{selector-from}
use Rattle.records.proofs.selectors_at.Goals as goal

pub returns : goal.returns
returns c =
    let a = c.bits in
    let b = c.bits-2 in
    let d = c.bits-3 in
    let g = c.args in
    let p = g.packet.now in
    let at = c.record_bit-at.result in
    let place = c.record_bit-at.ensures.0 in (
      a.ensures.0 ∙ selector-from p g.i 0 (at + 16) (omega (arith, place)),
      b.ensures.0 ∙ selector-from p g.i 1 (at + 20) (omega (arith, place)),
      d.ensures.0 ∙ selector-from p g.i 2 (at + 24) (omega (arith, place)),
    )
