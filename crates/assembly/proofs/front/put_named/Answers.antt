-- `put_named` meets its contract: field by field. Assumes nothing.
use Rattle.std.proofs.Common.{arith}
use Rattle.codes.proofs.Laws.{appends-both}
use Rattle.codes.proofs.Pushed.{length-number}
use Rattle.assembly.proofs.front.put_named.Goals as goal

pub put-requires-2 : goal.put-requires-2
put-requires-2 c = record { few = c.put.ensures.few; small = c.put.ensures.small; room = omega (arith, length-number) }

pub put-requires-3 : goal.put-requires-3
put-requires-3 c = record { few = c.put-2.ensures.few; small = c.put-2.ensures.small; room = omega (arith, length-number) }

pub put-requires-4 : goal.put-requires-4
put-requires-4 c = record { few = c.put-3.ensures.few; small = c.put-3.ensures.small; room = omega (arith, length-number) }

pub put-requires-5 : goal.put-requires-5
put-requires-5 c = record { few = c.put-4.ensures.few; small = c.put-4.ensures.small; room = omega (arith, length-number) }

pub put-requires-6 : goal.put-requires-6
put-requires-6 c = record { few = c.put-5.ensures.few; small = c.put-5.ensures.small; room = omega (arith, length-number) }

pub returns : goal.returns
returns c =
    let t = appends-both _ _ _ _ _ c.put.ensures (appends-both _ _ _ _ _ c.put-2.ensures (appends-both _ _ _ _ _ c.put-3.ensures (appends-both _ _ _ _ _ c.put-4.ensures (appends-both _ _ _ _ _ c.put-5.ensures c.put-6.ensures)))) in
    rw (c.new.ensures.0, c.new.ensures.1, c.new-2.ensures.0, c.new-2.ensures.1, c.new-3.ensures.0, c.new-3.ensures.1, c.new-4.ensures.0, c.new-4.ensures.1, c.new-5.ensures.0, c.new-5.ensures.1, c.new-6.ensures.0, c.new-6.ensures.1) at t
