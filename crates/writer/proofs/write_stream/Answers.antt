-- `writer::write_stream` meets its contract. Assumes nothing.
use Rattle.std.proofs.Common.{◌≡◌, sym, ap, ◌∙◌, ℕ, length, arith, length-take-le}
use Rattle.format.specs.Tile.{slice}
use Rattle.format.specs.Writing.{call_refusal}
use Rattle.refusals.proofs.Laws.{not_zero}
use Rattle.writer.proofs.OutcomeLaws.{fit, work-lent, call-refused, call-done}
use Rattle.writer.proofs.WriteLaws.{told_exit}
use Rattle.writer.proofs.write_stream.Goals.{In_ok-size}
use Rattle.writer.proofs.write_stream.Goals as goal

pub returns-in_err-size : goal.returns-in_err-size
returns-in_err-size c =
    let a = c.args in
    let is = c.in_err-size.ensures.refusal in
    call-refused a.width a.height (slice a.green.now a.red.now a.blue.now) a.work.now a.stream.now (λ z. not_zero _ (is ∙ z)) _
    (told_exit _ _ c.from_residual.ensures.1 ∙ ap (λ (n : ℕ). record { refusal = n; length = 0 }) is)

-- the size that was checked
called : (c : In_ok-size) → let s = c.in_ok-size.size in let a = c.args in call_refusal s.width s.height (length a.green.now) (length a.red.now) (length a.blue.now) (length a.work.now) ≡ 0
called c = let e = c.in_ok-size.ensures in rw (e.size.0, e.size.1) (sym e.refusal)

pub slice_bounds-write_planes-end : goal.slice_bounds-write_planes-end
slice_bounds-write_planes-end c =
    let call = called (goal.at.slice_bounds-write_planes-end c).In_ok-size in
    omega (arith, c.work_length-n.ensures, work-lent _ _ _ _ _ _ call)

pub slice_bounds-write_planes-end-2 : goal.slice_bounds-write_planes-end-2
slice_bounds-write_planes-end-2 c =
    let call = called (goal.at.slice_bounds-write_planes-end-2 c).In_ok-size in
    sym (length-take-le _ _ (omega (arith, c.work_length-n.ensures, work-lent _ _ _ _ _ _ call)))

pub write_planes-requires : goal.write_planes-requires
write_planes-requires c =
    let call = called (goal.at.write_planes-requires c).In_ok-size in
    (fit _ _ _ _ _ _ call, length-take-le c.work_length-n.result c.args.work.now (omega (arith, c.work_length-n.ensures, work-lent _ _ _ _ _ _ call)) ∙ c.work_length-n.ensures)

pub returns : goal.returns
returns c =
    let a = c.args in
    let s = c.in_ok-size.size in
    let e = c.in_ok-size.ensures.size in
    let call = called (goal.at.returns c).In_ok-size in
    rw (← e.0, ← e.1)
    (call-done s.width s.height (slice a.green.now a.red.now a.blue.now) a.work.now a.stream.now call _ _ _ _
    c.write_planes.ensures.value c.work_length-n.ensures c.write_planes.ensures.work_after c.write_planes.ensures.stream_after)
