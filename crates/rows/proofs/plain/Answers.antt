-- `plain` meets its contract. Assumes nothing.
use Rattle.std.proofs.Common.{arith}
use Rattle.bits.specs.View.{as_reader}
use Rattle.rows.specs.Course.{state_of}
use Rattle.rows.specs.View.{as_run}
use Rattle.rows.proofs.Steps.{onward-group, onward-run}
use Rattle.rows.proofs.plain.Goals as goal

pub returns-then-width-eq0 : goal.returns-then-width-eq0
returns-then-width-eq0 c =
    let a = c.args in
    let z = c.zero_groups-run in record {
      onward = onward-run a.packet.now a.selector.number a.dst.now a.out (state_of a.width a.reader) c.requires.underway.clean (as_run z.result) z.ensures.value c.requires.underway.go c.if-width-eq0.true
          (omega (arith, c.requires.underway)) z.ensures.some_groups.0 z.ensures.some_groups.1;
      done = (omega (arith, z.ensures.some_groups), omega (arith, z.ensures.some_groups, c.requires.underway), z.ensures.still_ready);
    }

pub overflow_add-result-2 : goal.overflow_add-result-2
overflow_add-result-2 c = omega (arith, c.requires.underway)

pub returns : goal.returns
returns c =
    let a = c.args in
    let g = c.group-q in
    let v = g.result in
    let p = c.put4 in
    let at = a.out in
    let d = a.dst.now in record {
      onward = onward-group a.packet.now a.selector.number d at (state_of a.width a.reader) c.requires.underway.clean v.value.a v.value.b v.value.c v.value.d v.width (as_reader v.reader) g.ensures.value
          c.requires.underway.go (omega (arith, c.requires.underway)) c.if-width-eq0.false (omega (arith, c.requires.underway)) p.new.dst p.ensures;
      done = (omega arith, omega (arith, c.requires.underway), g.ensures.still_ready);
    }
