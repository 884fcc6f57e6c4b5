-- `fast` meets its contract. Assumes nothing.
use Rattle.std.proofs.Common.{rules, arith, refl, sym, ◌+◌, ◌*◌, w64, to_z}
use Rattle.rows.specs.Word.{level_of}
use Rattle.rows.proofs.LevelLaws.{level-none, level-some, level-wide, level-kept}
use Rattle.rows.proofs.Steps as steps
use Rattle.rows.proofs.fast.Goals.{After-saturating_sub-room, After-put_quad-then-ends, At-loop-h, Else-over, Else-over-2, In-loop-h, Then-ends}
use Rattle.rows.proofs.fast.Given.{Over}
use Rattle.rows.proofs.fast.Goals as goal

abbrev called : (g : Over) → After-saturating_sub-room g → steps.Call
called g c =
    let a = c.args in
    record { packet = a.packet.now; selector = g.S.Scale.selector a.scale; slice = a.dst.now; out = a.out; width = a.width; reader = a.reader }

abbrev at : (g : Over) → At-loop-h g → steps.Point
at g c =
    let l = c.loop-h in
    record { call = called g (goal.at.At-loop-h g c).After-saturating_sub-room; d = l.dst; place = l.place; word = l.word; level = to_z w64 l.level-bits; i = l.i }

pub loop-h-init : goal.loop-h-init
loop-h-init g c =
    let s = c.requires in
    let n = s.underway in
    steps.state-first (called g c) (record { ready = s.ready; go = n.go; below = g.met.S.Scale.below c.args.scale; wide = omega (arith, n) }) (omega (arith, n)) (omega (arith, n))
    n.clean _ _ _ _ c.saturating_sub-last.ensures c.edge-end.ensures c.saturating_sub-room.ensures (omega arith, s.ready.bits)

inside : (g : Over) (c : In-loop-h g) → steps.Inside (at g (goal.at.In-loop-h g c).At-loop-h)
inside g c = steps.state-inside c.loop-h.invariant (c.near.ensures.0 c.loop-h-test.true)

ran : (g : Over) (c : Else-over g) → steps.Ran (at g (goal.at.Else-over g c).At-loop-h) c.run_word-h.result
ran g c =
    let b = (goal.at.Else-over g c).In-loop-h in
    let h = c.run_word-h in
    steps.state-run b.loop-h.invariant (inside g b) c.if-level-le0.true h.result h.ensures (c.over.ensures.0 c.if-over.false)

took : (g : Over) (c : Else-over-2 g)
    → let u = c.step_word-u.result in
    steps.Took (at g (goal.at.Else-over-2 g c).At-loop-h) (steps.width_at (at g (goal.at.Else-over-2 g c).At-loop-h)) u.used (level_of u.value)
took g c =
    let b = (goal.at.Else-over-2 g c).In-loop-h in
    let u = c.step_word-u in
    steps.state-group b.loop-h.invariant (inside g b) c.if-level-le0.false u.result u.ensures.step (c.over-else-level-le0.ensures.0 c.if-over-2.false)

took-last : (g : Over) (c : Then-ends g) → let w = c.above-w.result in steps.Took (at g (goal.at.Then-ends g c).At-loop-h) w (4 * w) w
took-last g c =
    let w = c.above-w in
    steps.state-end c.loop-h.invariant w.result w.ensures (c.ends.ensures.0 c.if-ends.true)

ended : (g : Over) (c : After-put_quad-then-ends g)
    → let p = at g (goal.at.After-put_quad-then-ends g c).At-loop-h in
    let w = c.above-w.result in
    steps.Turn p.call c.put_quad-then-ends.new.dst (p.place + 4 * w + c.quad_word-q-then-ends.result.used) w (p.i + 4)
ended g c =
    let q = c.quad_word-q-then-ends in
    (took-last g (goal.at.After-put_quad-then-ends g c).Then-ends).turn q.result _ q.ensures c.four-then-ends.ensures _ c.put_quad-then-ends.ensures _ (omega arith)

pub loop-h-preserved : goal.loop-h-preserved
loop-h-preserved g c =
    let b = (goal.at.loop-h-preserved g c).Else-over-2 in
    let q = c.quad_word-q in
    steps.state-again b.loop-h.invariant _ _ (level-kept (search rules))
    ((took g b).turn q.result _ q.ensures c.four.ensures _ c.put_quad.ensures _ refl) (omega arith, c.after-word-else-level-le0.ensures)

pub overflow_add-stop : goal.overflow_add-stop
overflow_add-stop g c = omega (arith, c.requires.ready.room)

pub overflow_cast-level : goal.overflow_cast-level
overflow_cast-level g c = record { sfits = omega arith }

pub overflow_sub-n : goal.overflow_sub-n
overflow_sub-n g c = omega (arith, inside g (goal.at.overflow_sub-n g c).In-loop-h)

pub overflow_add-n : goal.overflow_add-n
overflow_add-n g c = omega (arith, inside g (goal.at.overflow_add-n g c).In-loop-h)

pub run_word-h-requires : goal.run_word-h-requires
run_word-h-requires g c = omega (arith, inside g (goal.at.run_word-h-requires g c).In-loop-h)

pub over-requires : goal.over-requires
over-requires g c = omega (arith, inside g (goal.at.over-requires g c).In-loop-h, c.run_word-h.ensures.few)

pub arrived-requires : goal.arrived-requires
arrived-requires g c = omega (arith, c.loop-h.invariant)

pub shape_of-dst-then-over : goal.shape_of-dst-then-over
shape_of-dst-then-over g c = c.loop-h.invariant.turn.on.same

pub returns-then-over : goal.returns-then-over
returns-then-over g c =
    let told = steps.state-last c.loop-h.invariant c.arrived.result 0 (level-none _ c.if-level-le0.true) c.arrived.ensures in
    record { onward = told.0; done = told.1 }

pub overflow_mul-i : goal.overflow_mul-i
overflow_mul-i g c = omega (arith, ran g c)

pub overflow_add-i : goal.overflow_add-i
overflow_add-i g c = omega (arith, ran g c)

pub overflow_cast-level-then-level-le0 : goal.overflow_cast-level-then-level-le0
overflow_cast-level-then-level-le0 g c = record { sfits = omega (arith, ran g (goal.at.overflow_cast-level-then-level-le0 g c).Else-over) }

pub after-word-requires : goal.after-word-requires
after-word-requires g c = omega (arith, ran g (goal.at.after-word-requires g c).Else-over)

pub overflow_add-place : goal.overflow_add-place
overflow_add-place g c = omega (arith, ran g (goal.at.overflow_add-place g c).Else-over)

pub loop-h-smaller-then-level-le0 : goal.loop-h-smaller-then-level-le0
loop-h-smaller-then-level-le0 g c = omega (arith, ran g (goal.at.loop-h-smaller-then-level-le0 g c).Else-over)

pub loop-h-preserved-then-level-le0 : goal.loop-h-preserved-then-level-le0
loop-h-preserved-then-level-le0 g c = let b = ran g (goal.at.loop-h-preserved-then-level-le0 g c).Else-over in
    steps.state-again c.loop-h.invariant _ _ (level-wide _ (omega (arith, b.short))) b.turn (omega arith, c.after-word.ensures)

pub overflow_cast-w : goal.overflow_cast-w
overflow_cast-w g c = steps.inside-some (inside g (goal.at.overflow_cast-w g c).In-loop-h) c.if-level-le0.false

pub step_word-u-requires : goal.step_word-u-requires
step_word-u-requires g c = steps.inside-short (inside g (goal.at.step_word-u-requires g c).In-loop-h) c.if-level-le0.false

pub over-requires-else-level-le0 : goal.over-requires-else-level-le0
over-requires-else-level-le0 g c = omega (arith, inside g (goal.at.over-requires-else-level-le0 g c).In-loop-h, c.step_word-u.ensures.used_bound)

pub arrived-requires-then-over-2 : goal.arrived-requires-then-over-2
arrived-requires-then-over-2 g c = omega (arith, c.loop-h.invariant)

pub shape_of-dst-then-over-2 : goal.shape_of-dst-then-over-2
shape_of-dst-then-over-2 g c = c.loop-h.invariant.turn.on.same

pub returns-then-over-2 : goal.returns-then-over-2
returns-then-over-2 g c =
    let told = steps.state-last c.loop-h.invariant c.arrived-then-over-2.result _ (level-some _ c.if-level-le0.false).0 c.arrived-then-over-2.ensures in
    record { onward = told.0; done = told.1 }

pub quad_word-q-requires : goal.quad_word-q-requires
quad_word-q-requires g c = omega (arith, took g c)

pub put_quad-requires : goal.put_quad-requires
put_quad-requires g c = omega (arith, took g (goal.at.put_quad-requires g c).Else-over-2)

pub overflow_add-i-else-level-le0 : goal.overflow_add-i-else-level-le0
overflow_add-i-else-level-le0 g c = omega (arith, took g (goal.at.overflow_add-i-else-level-le0 g c).Else-over-2)

pub overflow_add-taken : goal.overflow_add-taken
overflow_add-taken g c = omega (arith, took g (goal.at.overflow_add-taken g c).Else-over-2, c.quad_word-q.ensures.1)

pub after-word-requires-else-level-le0 : goal.after-word-requires-else-level-le0
after-word-requires-else-level-le0 g c = let b = (goal.at.after-word-requires-else-level-le0 g c).Else-over-2 in omega (arith, took g b, inside g (goal.at.Else-over-2 g b).In-loop-h, c.quad_word-q.ensures.1)

pub overflow_add-place-else-level-le0 : goal.overflow_add-place-else-level-le0
overflow_add-place-else-level-le0 g c = omega (arith, took g (goal.at.overflow_add-place-else-level-le0 g c).Else-over-2, c.quad_word-q.ensures.1)

pub loop-h-smaller : goal.loop-h-smaller
loop-h-smaller g c = omega (arith, took g (goal.at.loop-h-smaller g c).Else-over-2)

pub ends-requires : goal.ends-requires
ends-requires g c = omega (arith, c.loop-h.invariant)

pub overflow_mul-w : goal.overflow_mul-w
overflow_mul-w g c = omega (arith, took-last g c)

pub quad_word-q-requires-then-ends : goal.quad_word-q-requires-then-ends
quad_word-q-requires-then-ends g c = omega (arith, took-last g c)

pub put_quad-requires-then-ends : goal.put_quad-requires-then-ends
put_quad-requires-then-ends g c = omega (arith, took-last g (goal.at.put_quad-requires-then-ends g c).Then-ends)

pub overflow_mul-next : goal.overflow_mul-next
overflow_mul-next g c = omega (arith, took-last g (goal.at.overflow_mul-next g c).Then-ends)

pub overflow_add-next : goal.overflow_add-next
overflow_add-next g c = omega (arith, took-last g (goal.at.overflow_add-next g c).Then-ends)

pub overflow_add-next-then-ends : goal.overflow_add-next-then-ends
overflow_add-next-then-ends g c = omega (arith, took-last g (goal.at.overflow_add-next-then-ends g c).Then-ends, c.quad_word-q-then-ends.ensures.1)

pub window-requires : goal.window-requires
window-requires g c = c.loop-h.invariant.asked.ready.size

pub overflow_add-i-then-ends : goal.overflow_add-i-then-ends
overflow_add-i-then-ends g c = omega (arith, took-last g (goal.at.overflow_add-i-then-ends g c).Then-ends)

pub arrived-requires-then-ends : goal.arrived-requires-then-ends
arrived-requires-then-ends g c = omega (arith, ended g (goal.at.arrived-requires-then-ends g c).After-put_quad-then-ends, c.loop-h.invariant.asked.ready.room)

pub shape_of-dst-then-ends : goal.shape_of-dst-then-ends
shape_of-dst-then-ends g c = (ended g (goal.at.shape_of-dst-then-ends g c).After-put_quad-then-ends).on.same

pub returns-then-ends : goal.returns-then-ends
returns-then-ends g c =
    let told = steps.turn_last c.loop-h.invariant.asked (ended g (goal.at.returns-then-ends g c).After-put_quad-then-ends) (omega arith, c.window.ensures) c.arrived-then-ends.result c.arrived-then-ends.ensures in
    record { onward = told.0; done = told.1 }

pub arrived-requires-2 : goal.arrived-requires-2
arrived-requires-2 g c = omega (arith, c.loop-h.invariant)

pub shape_of-dst : goal.shape_of-dst
shape_of-dst g c = c.loop-h.invariant.turn.on.same

pub returns : goal.returns
returns g c =
    let told = steps.state-last c.loop-h.invariant c.arrived-2.result _ (sym c.above-w.ensures) c.arrived-2.ensures in
    record { onward = told.0; done = told.1 }
