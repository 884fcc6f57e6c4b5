-- `decode_row` meets its contract. Assumes nothing.
use Rattle.std.proofs.Common.{arith, lit<, length}
use Rattle.bits.specs.View.{as_reader}
use Rattle.rows.specs.Course.{state_of}
use Rattle.rows.proofs.Filled.{clean_all}
use Rattle.rows.proofs.Row.{Decoding, decoding-first, decoding-on, decoding-halted, decoding-done}
use Rattle.rows.proofs.decode_row.Goals.{After-quick-far, At-loop-out}
use Rattle.rows.proofs.decode_row.Goals as goal

pub loop-out-init : goal.loop-out-init
loop-out-init c =
    let a = c.args in
    let k = c.fill in
    let first = c.width_update-first in
    decoding-first a.packet.now a.selector.number (length a.dst.now) k.new.self first.result.reader first.result.value k.auto.self first.ensures.still_ready
    (clean_all k.new.self (length a.dst.now) (k.ensures.after (λ y e. e)))

pub returns-then-halts : goal.returns-then-halts
returns-then-halts c =
    let told = decoding-halted c.loop-out.invariant (as_reader c.args.reader) c.width_update-first.ensures.value c.loop-out-test.true
    (c.halts.ensures.0 c.if-halts.true) c.stop.result c.stop.ensures.value (c.stop.ensures.still_ready _) in
    record { value = told.0; dst_after = told.1.0; still_ready = told.1.1 }

pub quick-far-requires : goal.quick-far-requires
quick-far-requires c =
    let l = c.loop-out.invariant in
    let size = c.requires.size in
    let goes = c.halts.ensures.1 c.if-halts.false in
    let more = c.loop-out-test.true in
    record {
      ready = l.ready;
      underway = record { go = goes.0; size = omega (arith, l.same, size); more = omega (arith, l.same, more); short = goes.1; clean = l.clean };
    }

-- the row after the quick part of a turn
quicked : (c : After-quick-far)
    → let a = c.args in
    let w = c.width_update-first.result in
    let q = c.quick-far in
    Decoding a.packet.now a.selector.number (length a.dst.now) (state_of w.value w.reader) c.fill.new.self q.new.dst
    q.result.reader q.result.width q.result.value
quicked c =
    let q = c.quick-far in
    decoding-on c.loop-out.invariant q.ensures.onward (omega (arith, q.ensures.done.inside, c.loop-out.invariant.same)) q.ensures.done.ready

pub returns-then-halts-2 : goal.returns-then-halts-2
returns-then-halts-2 c =
    let told = decoding-halted (quicked (goal.at.returns-then-halts-2 c).After-quick-far) (as_reader c.args.reader) c.width_update-first.ensures.value c.if-out-n.true
    (c.halts-then-out-n.ensures.0 c.if-halts-2.true) c.stop-then-halts-2.result c.stop-then-halts-2.ensures.value (c.stop-then-halts-2.ensures.still_ready _) in
    record { value = told.0; dst_after = told.1.0; still_ready = told.1.1 }

pub plain-one-requires : goal.plain-one-requires
plain-one-requires c =
    let l = quicked (goal.at.plain-one-requires c).After-quick-far in
    let size = c.requires.size in
    let goes = c.halts-then-out-n.ensures.1 c.if-halts-2.false in
    let more = c.if-out-n.true in
    record {
      ready = l.ready;
      underway = record { go = goes.0; size = omega (arith, l.same, size); more = omega (arith, l.same, more); short = goes.1; clean = l.clean };
    }

pub loop-out-preserved-then-out-n : goal.loop-out-preserved-then-out-n
loop-out-preserved-then-out-n c =
    let p = c.plain-one in
    let l = quicked (goal.at.loop-out-preserved-then-out-n c).After-quick-far in
    decoding-on l p.ensures.onward (omega (arith, p.ensures.done.1, l.same)) p.ensures.done.2

pub returns : goal.returns
returns c =
    let told = decoding-done c.loop-out.invariant (as_reader c.args.reader) c.width_update-first.ensures.value (omega arith) in
    record { value = told.0; dst_after = told.1.0; still_ready = told.1.1 }

pub width_update-first-requires : goal.width_update-first-requires
width_update-first-requires c = record { ready = c.requires.ready; width_bound = lit< tt }

pub shape_of-dst-then-halts : goal.shape_of-dst-then-halts
shape_of-dst-then-halts c = c.loop-out.invariant.same

pub shape_of-dst-then-halts-2 : goal.shape_of-dst-then-halts-2
shape_of-dst-then-halts-2 c = (quicked (goal.at.shape_of-dst-then-halts-2 c).After-quick-far).same

pub loop-out-smaller-then-out-n : goal.loop-out-smaller-then-out-n
loop-out-smaller-then-out-n c = omega (arith, c.plain-one.ensures.done.0, c.quick-far.ensures.done.forward, c.loop-out-test.true)

pub loop-out-smaller : goal.loop-out-smaller
loop-out-smaller c = omega (arith, c.if-out-n.false, c.loop-out-test.true)

pub loop-out-preserved : goal.loop-out-preserved
loop-out-preserved c = quicked (goal.at.loop-out-preserved c).After-quick-far

pub shape_of-dst : goal.shape_of-dst
shape_of-dst c = c.loop-out.invariant.same
