-- `fast` meets its contract. Assumes nothing.
use Rattle.std.proofs.Common.{◌-◌, length}
use Rattle.rows.proofs.Steps as steps
use Rattle.rows.proofs.fast.Given as goal

abbrev pub invariant-loop-h : goal.invariant-loop-h
invariant-loop-h g l =
    let call : steps.Call = record { packet = l.packet; selector = g.S.Scale.selector l.scale; slice = l.initial.dst; out = l.out; width = l.width; reader = l.reader } in
    steps.State l.n l.last l.end l.stop l.room (record { call = call; d = l.dst; place = l.place; word = l.word; level = l.level; i = l.i })

abbrev pub decreases-loop-h : goal.decreases-loop-h
decreases-loop-h g l = length l.initial.dst - l.i
