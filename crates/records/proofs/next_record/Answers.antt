-- `records::next_record` meets its contract. Assumes nothing.
use Rattle.std.proofs.Common.{◌≡◌, sym, ap, ◌∙◌, ℕ, ◌+◌, ◌-◌, ◌*◌, ◌%◌, ◌^◌, ◌≤◌, ◌<◌, mul-le-mul_right, mod-lt, arith, length, take, drop, length-take, length-drop, ℤ, List, ◌++◌, lt-ltb}
use Rattle.lists.specs.Lists.{put_at}
use Rattle.lists.proofs.Tab.{part-back, length_part}
use Rattle.format.specs.Packets.{kind, blocks}
use Rattle.records.specs.Counted.{both}
use Rattle.records.specs.Record.{values_from}
use Rattle.records.specs.Finished.{finished_by}
use Rattle.records.specs.declared.Held.{Held}
use Rattle.records.proofs.Walk.{rows-le, size-le, walked-has, walked_none}
use Rattle.records.proofs.Packet.{record-few, few-more}
use Rattle.records.proofs.next_record.Goals.{After-blocks-2, After-finished_record-one, After-kind, After-plus-counts, After-record_length, After-struct_known-4-1, Else-blocks-i, Start}
use Rattle.records.proofs.next_record.Goals as goal

module _ (c : After-kind) where
  abbrev s : Start
  s = (goal.at.After-kind c).Start

  abbrev p : List ℕ
  p = s.args.packet.now

  abbrev h : Held
  h = s.args.h

  abbrev l : List ℤ
  l = s.args.work.now

  abbrev size : ℕ
  size = c.kind.result * h.m * h.cols

  abbrev at : ℕ
  at = h.at + s.args.i % h.slots * size

  size_is : size ≡ kind p * h.m * h.cols
  size_is = ap (λ (k : ℕ). k * h.m * h.cols) c.kind.ensures.0

  -- the slot of record i lies within the work slice
  fits : at + size ≤ length l
  fits =
      let q = mul-le-mul_right size (mod-lt s.args.i s.requires.shape.2) in
      let e = ap (λ (x : ℕ). h.slots * x) size_is in
      omega (arith, q, e, s.requires.shape.3)

  -- the work slice with the record in its slot
  abbrev done : List ℤ
  done = finished_by s.args.f h.cols s.args.i (values_from p h.m h.cols s.args.i s.args.v.offset)

  slotted : (ys : List ℤ) → ys ≡ done → length ys ≡ length (take (at + size - at) (drop at l))
      → take at l ++ (ys ++ drop (at + size - at) (drop at l)) ≡ put_at l (h.at + s.args.i % h.slots * (kind p * h.m * h.cols)) done
  slotted ys e k =
      let n : at + size - at ≡ size = omega arith in
      let cut = ap (λ (x : ℕ). length (take x (drop at l))) n in
      let long : length done ≡ size = ap length (sym e) ∙ k ∙ cut ∙ length_part l at size fits in
      part-back l ys done at (at + size - at) e (n ∙ sym long)
      ∙ ap (λ (x : ℕ). put_at l (h.at + s.args.i % h.slots * x) done) size_is

abbrev slot : After-struct_known-4-1 → After-kind
slot c = (goal.at.After-struct_known-4-1 c).After-kind

pub overflow_mul-size : goal.overflow_mul-size
overflow_mul-size c =
    omega (arith, rows-le c.kind.result c.args.h.m (omega (arith, c.kind.ensures.1)), c.requires.shape.0)

pub overflow_mul-size-2 : goal.overflow_mul-size-2
overflow_mul-size-2 c =
    let f = (goal.at.overflow_mul-size-2 c).After-kind in
    let a = f in
    let h = a.args.h in
    omega (arith, size-le f.kind.result h.m h.cols (omega (arith, f.kind.ensures.1)) a.requires.shape.0, a.requires.shape.1)

pub finished_record-one-requires : goal.finished_record-one-requires
finished_record-one-requires c =
    let f = slot (goal.at.finished_record-one-requires c).After-struct_known-4-1 in
    let a = s f in record {
      in_bounds = (a.requires.in_bounds.1, a.requires.in_bounds.3);
      shape = (a.requires.shape.0, a.requires.shape.1, simp (length-take, length-drop) (omega (arith, fits f, size_is f)));
    }

pub returns-then-blocks-i : goal.returns-then-blocks-i
returns-then-blocks-i c =
    let t = (goal.at.returns-then-blocks-i c).After-blocks-2 in
    let d = (goal.at.After-blocks-2 t).After-finished_record-one in
    let f = slot (goal.at.After-finished_record-one d).After-struct_known-4-1 in
    let a = (s f).args in
    let e = d.finished_record-one.ensures in
    let b : blocks (p f) ≤ a.i = omega (arith, c.if-blocks-i.true, t.blocks-2.ensures.0) in
    record {
      value = walked_none (p f) a.h.m a.h.cols a.i a.v b;
      work_after = slotted f _ e.band_after d.finished_record-one.auto.band;
    }

pub plus-counts-requires : goal.plus-counts-requires
plus-counts-requires c =
    let t = (goal.at.plus-counts-requires c).Else-blocks-i in
    let d = (goal.at.Else-blocks-i t).After-finished_record-one in
    let f = slot (goal.at.After-finished_record-one d).After-struct_known-4-1 in
    let a = (s f).args in
    let b : a.i < blocks (p f) = omega (arith, t.if-blocks-i.false, t.blocks-2.ensures.0) in
    let e = rw (lt-ltb a.i (blocks (p f)) b) at d.finished_record-one.ensures.value in
    ((s f).requires.in_bounds.2, rw e (few-more (2 ^ 19) (2 ^ 60) _ (omega arith) (record-few (p f) a.h.m a.h.cols a.i a.v.offset)))

pub overflow_add-result : goal.overflow_add-result
overflow_add-result c =
    let d = (goal.at.overflow_add-result c).After-finished_record-one in
    omega (arith, c.record_length.ensures.1, (s (slot (goal.at.After-finished_record-one d).After-struct_known-4-1)).requires.in_bounds.1)

pub returns : goal.returns
returns c =
    let l = (goal.at.returns c).After-record_length in
    let w = (goal.at.After-record_length l).After-plus-counts in
    let t = (goal.at.After-plus-counts w).Else-blocks-i in
    let d = (goal.at.Else-blocks-i t).After-finished_record-one in
    let f = slot (goal.at.After-finished_record-one d).After-struct_known-4-1 in
    let a = (s f).args in
    let e = d.finished_record-one.ensures in
    let b : a.i < blocks (p f) = omega (arith, t.if-blocks-i.false, t.blocks-2.ensures.0) in
    let o = ap (λ (x : ℕ). a.v.offset + x) l.record_length.ensures.0 in
    let n = w.plus-counts.ensures ∙ ap (both a.v.counts) (rw (lt-ltb a.i (blocks (p f)) b) at e.value) in
    record {
      value = walked-has (p f) a.h.m a.h.cols a.i a.v _ _ b o n;
      work_after = slotted f _ e.band_after d.finished_record-one.auto.band;
    }

pub overflow_mul-a : goal.overflow_mul-a
overflow_mul-a c = omega (arith, fits (goal.at.overflow_mul-a c).After-kind)

pub overflow_add-a : goal.overflow_add-a
overflow_add-a c = omega (arith, fits (slot c))

pub overflow_add-end : goal.overflow_add-end
overflow_add-end c = omega (arith, fits (slot c))

pub offset_bounds-work-a : goal.offset_bounds-work-a
offset_bounds-work-a c = omega (arith, fits (slot c))

pub slice_bounds-finished_record-end : goal.slice_bounds-finished_record-end
slice_bounds-finished_record-end c = fits (slot c)
