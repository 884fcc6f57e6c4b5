-- `units` meets its contract. Assumes nothing.
use Rattle.std.proofs.Common.{◌≡◌, sym, ap, ◌∙◌, length-set, below_more, arith}
use Rattle.lists.specs.Lists.{tab}
use Rattle.lists.proofs.Tab.{fill_start, fill_step, fill_done}
use Rattle.format.specs.Refusals.{◌▷◌}
use Rattle.format.proofs.TurnLaws.{each_none}
use Rattle.refusals.specs.Number.{code_of}
use Rattle.refusals.proofs.Laws.{code_of-and}
use Rattle.assembly.specs.Packet.{units_of, long_refusal}
use Rattle.assembly.specs.Tile.{units_in, refusal_in}
use Rattle.assembly.proofs.Shapes.{each_next}
use Rattle.assembly.proofs.Streams.{units_small, units-is, length-is}
use Rattle.assembly.proofs.Work.units.Goals.{After-measure-units, After-loop-p}
use Rattle.assembly.proofs.Work.units.Goals as goal

pub loop-p-init : goal.loop-p-init
loop-p-init c =
    let s = c.args.self in
    (omega arith, fill_start _ (units_in s.w s.h s.numbers.now), sym (each_none (refusal_in s.w s.h s.numbers.now)), λ k l. absurd (omega arith))

-- the packet is that of the work slice
refused : (c : After-measure-units) → long_refusal c.packet.result.shape c.packet.result.numbers.now ≡ refusal_in c.args.self.w c.args.self.h c.args.self.numbers.now c.loop-p.p
unfolding refusal_in
refused c = λ i. long_refusal (c.packet.ensures.0 i) (c.packet.ensures.1 i)

measured : (c : After-measure-units) → units_of c.packet.result.shape c.packet.result.numbers.now ≡ units_in c.args.self.w c.args.self.h c.args.self.numbers.now c.loop-p.p
unfolding units_in
measured c = λ i. units_of (c.packet.ensures.0 i) (c.packet.ensures.1 i)

pub loop-p-preserved : goal.loop-p-preserved
loop-p-preserved c =
    let s = c.args.self in
    let p = c.loop-p.p in
    let m = (goal.at.loop-p-preserved c).After-measure-units in
    let i = c.loop-p.invariant in
    let e = c.measure-units.ensures in
    let u = e.units.0 ∙ measured m in (
      simp length-set i.0,
      fill_step _ _ p (units_in s.w s.h s.numbers.now) _ i.1 (omega (arith, i.0)) u,
      ap code_of c.and-passes.ensures ∙ code_of-and _ _ ∙ (λ j. i.2 j ▷ (e.refusal ∙ refused m) j) ∙ sym (each_next (refusal_in s.w s.h s.numbers.now) p),
      below_more _ _ i.3 (rw u at e.units.1),
    )

-- all are filled in
all : (c : After-loop-p) → c.loop-p.each ≡ tab 13 (units_in c.args.self.w c.args.self.h c.args.self.numbers.now)
all c = let s = c.args.self in fill_done _ _ c.loop-p.p 13 (units_in s.w s.h s.numbers.now) c.loop-p.invariant.1 (omega arith) (omega arith)

pub invariant_of-result : goal.invariant_of-result
invariant_of-result c =
    let s = c.args.self in
    record { long = c.loop-p.invariant.0; small = rw (all c) (units_small (units_in s.w s.h s.numbers.now) (λ k l. c.loop-p.invariant.3 k (omega arith))) }

pub returns-clause-sizes : goal.returns-clause-sizes
returns-clause-sizes c v h =
    let s = c.args.self in
    let u = all (goal.at.returns-clause-sizes c).After-loop-p ∙ units-is s.w s.h v s.numbers.now h in
    record { units = u; long = length-is s.w s.h v s.numbers.now h _ u }
