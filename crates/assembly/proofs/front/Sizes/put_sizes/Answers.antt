-- `put_sizes` meets its contract. Assumes nothing.
use Rattle.std.proofs.Common.{arith}
use Rattle.format.specs.Writing.{number_bits}
use Rattle.codes.proofs.Laws.{appends-none, appends-both}
use Rattle.encoding.proofs.Records.{rows_none, rows_next}
use Rattle.assembly.specs.Front.{group_of}
use Rattle.assembly.proofs.Fronts.{length-sizes}
use Rattle.assembly.proofs.front.Sizes.put_sizes.Goals as goal

pub loop-g-init : goal.loop-g-init
loop-g-init c = rw (rows_none (λ g. number_bits 24 (group_of c.args.self.now.units.each g))) (appends-none _ _ c.requires)

pub put-requires : goal.put-requires
put-requires c =
    let i = c.loop-g.invariant in
    record { few = i.few; small = i.small; room = omega (arith, length-sizes c.args.self.now.units.each c.loop-g.g) }

pub loop-g-preserved : goal.loop-g-preserved
loop-g-preserved c =
    let e = c.new.ensures in
    let t = rw (e.0, e.1, c.group.ensures.0) at (appends-both _ _ _ _ _ c.loop-g.invariant c.put.ensures) in
    rw (← rows_next (λ g. number_bits 24 (group_of c.args.self.now.units.each g)) c.loop-g.g) t
