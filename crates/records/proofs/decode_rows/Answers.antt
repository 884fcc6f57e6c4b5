-- `decode_rows` meets its contract. Assumes nothing.
use Rattle.std.proofs.Common.{arith, ◌≡◌, refl, sym, ap, ◌∙◌, List, ◌++◌, ℕ, suc, ◌+◌, ◌-◌, ◌*◌, ◌/◌, ◌^◌, ◌≤◌, ◌<◌, min, zero-mul, add-one, ℤ, length, take, drop, length-take, length-drop}
use borrow.Rule.Slice.PartMut.{same_len_mid}
use Rattle.format.specs.Packets.{selector}
use Rattle.format.specs.Reader.{Reader}
use Rattle.format.specs.Counts.{first_status}
use Rattle.format.specs.Used.{row_used, rows_used}
use Rattle.format.proofs.UsedLaws.{used-none, used-on, used-most, used-stopped}
use Rattle.bits.specs.View.{as_reader}
use Rattle.records.specs.Counted.{counts_of}
use Rattle.records.proofs.Walk.{Walk, selector-row, walk_first, walk-fits, walk-next, walk-done, walk-stops, first-start, first_on, first-set}
use Rattle.records.proofs.decode_rows.Invariants.{all}
use Rattle.records.proofs.decode_rows.Goals.{After-band-1, After-min-rest, After-stops, In-loop-k, Start, Then-stops}
use Rattle.records.proofs.decode_rows.Goals as goal

pub loop-k-init : goal.loop-k-init
loop-k-init c =
    let a = c.args in
    let h = c.requires in
    let p = a.packet.now in
    let r = as_reader a.reader in
    let start = walk_first p (selector p a.i) a.shape.m a.shape.cols a.count r a.band.now h.size in (
      rw (zero-mul a.shape.cols) start,
      refl,
      h.ready.0,
      h.ready.1,
      first-start p (selector p a.i) a.shape.m a.shape.cols r,
      sym (used-none p (selector p a.i) a.shape.m a.shape.cols r h.ready.1),
    )

-- in the loop: one row fewer is left after this one, whose part lies within the band
record Inside (c : In-loop-k) : Type 0 where
  next : let n = c.args.count in let k = c.loop-k.k in n - k ≡ suc (n - (k + 1))
  fits : c.loop-k.k * c.args.shape.cols + c.args.shape.cols ≤ length c.loop-k.band

inside : (c : In-loop-k) → Inside c
inside c =
    let a = c.args in
    let l = c.loop-k in
    let p = a.packet.now in
    let next : a.count - l.k ≡ suc (a.count - (l.k + 1)) = omega (arith, c.loop-k-test.true) in
    record {
      next = next;
      fits = walk-fits p (selector p a.i) a.shape.m a.shape.cols (as_reader a.reader) _ l.band (l.k * a.shape.cols) (a.count - l.k) l.k (as_reader l.r)
          l.invariant.0 (a.count - (l.k + 1)) next;
    }

pub overflow_add-end : goal.overflow_add-end
overflow_add-end c = omega (arith, (inside (goal.at.overflow_add-end c).In-loop-k).fits, c.loop-k.invariant.1, c.well_formed)

pub decode_component-row-requires : goal.decode_component-row-requires
decode_component-row-requires c =
    record {
      ready = rw c.bytes.ensures.0 c.loop-k.invariant.2;
      size = simp (length-take, length-drop) (omega (arith, c.args.shape.short));
    }

-- after a row: it stands in the band
module _ (c : After-band-1) where
  abbrev n : In-loop-k
  n = (goal.at.After-band-1 c).In-loop-k

  abbrev s : Start
  s = (goal.at.In-loop-k n).Start

  abbrev p : List ℕ
  p = s.args.packet.now

  abbrev sel : ℕ → ℕ
  sel = selector p s.args.i

  abbrev r₀ : Reader
  r₀ = as_reader s.args.reader

  abbrev at : ℕ
  at = n.loop-k.k * s.args.shape.cols

  abbrev k : ℕ
  k = n.loop-k.k

  abbrev band : List ℤ
  band = n.loop-k.band

  abbrev ys : List ℤ
  ys = c.decode_component-row.new.dst

  abbrev end : Reader
  end = as_reader c.decode_component-row.result.reader

  size : length (take (at + s.args.shape.cols - at) (drop at band)) ≡ s.args.shape.cols
  size = simp (length-take, length-drop) (omega (arith, (inside n).fits))

  long : length ys ≡ s.args.shape.cols
  long = c.decode_component-row.auto.dst ∙ size

  -- the selector of the row
  own : c.selector_of-selector.result.number ≡ sel (k / s.args.shape.m)
  own =
      let a = s.args in
      let v = n.selectors_at-v in
      c.selector_of-selector.ensures ∙ selector-row p a.i v.result v.ensures.0 v.ensures.1 v.ensures.2 a.shape.m k (omega (arith, n.loop-k-test.true, s.requires.in_bounds.1))

  stands : (post : List ℤ) → length (take at band ++ (ys ++ post)) ≡ length band
      → Walk p sel s.args.shape.m s.args.shape.cols r₀ (all p s.args.i s.args.shape.m s.args.shape.cols s.args.count s.args.reader)
      (take at band ++ (ys ++ post)) (at + s.args.shape.cols) (s.args.count - (k + 1)) (k + 1) end
  stands post same =
      let a = s.args in
      let l = n.loop-k in
      let e = rw c.bytes.ensures.0 at c.decode_component-row.ensures in
      walk-next p sel a.shape.m a.shape.cols r₀ _ band at (a.count - k) k (as_reader l.r) l.invariant.0 (a.count - (k + 1)) (inside n).next
      _ _ ys post end size own e.reader_after e.dst_after long same

  same : length (take at band ++ (ys ++ drop (at + s.args.shape.cols - at) (drop at band))) ≡ length band
  same = same_len_mid at (at + s.args.shape.cols - at) band ys c.decode_component-row.auto.dst

  -- the bits so far with the row's, and what is taken after it where a status is set
  abbrev used : ℕ → ℕ
  used n = rows_used p sel s.args.shape.m s.args.shape.cols n r₀

  with_row : n.loop-k.bits + c.decode_component-row.result.value ≡ used (k + 1)
  with_row =
      let a = s.args in
      let i = n.loop-k.invariant in
      let row = (rw c.bytes.ensures.0 at c.decode_component-row.ensures.bits) ∙ (λ j. row_used p (own j) (size j) (i.0.reader j)) in
      let on = used-on p sel a.shape.m a.shape.cols r₀ s.requires.ready.1 k in
      (λ j. i.5 j + row j) ∙ sym on ∙ ap used (sym (add-one k))

  few : used (k + 1) < 2 ^ 40
  few =
      let room = s.requires.ready.0.room in
      omega (arith, used-most p sel s.args.shape.m s.args.shape.cols r₀ s.requires.ready.1 (k + 1), room)

  with_rest : (end.status ≡ 0 → ⊥) → used s.args.count ≡ used (k + 1) + min (s.args.count - k - 1) end.remaining
  with_rest set =
      let a = s.args in
      let w = (stands _ same).reader in
      let e : a.count ≡ k + 1 + (a.count - k - 1) = omega (arith, n.loop-k-test.true) in
      ap used e
      ∙ used-stopped p sel a.shape.m a.shape.cols r₀ s.requires.ready.1 (k + 1) (λ z. set (ap (λ (q : Reader). q.status) w ∙ z)) (a.count - k - 1)
      ∙ ap (λ (q : Reader). used (k + 1) + min (a.count - k - 1) q.remaining) (sym w)

abbrev after-row : After-stops → After-band-1
after-row c = (goal.at.After-stops c).After-band-1

pub overflow_add-bits : goal.overflow_add-bits
overflow_add-bits c = let d = (goal.at.overflow_add-bits c).After-band-1 in omega (arith, with_row d, few d)

pub loop-k-preserved : goal.loop-k-preserved
loop-k-preserved c =
    let d = after-row (goal.at.loop-k-preserved c).After-stops in
    let w = stands d _ (same d) in
    let i = (n d).loop-k.invariant in
    let a = (s d).args in
    let next : k d * a.shape.cols + a.shape.cols ≡ (k d + 1) * a.shape.cols = omega arith in (
      rw (← next) w,
      same d ∙ i.1,
      rw d.bytes.ensures.0 at d.decode_component-row.ensures.still_ready,
      (c.stops.ensures.1 c.if-stops.false),
      first_on (p d) (sel d) a.shape.m a.shape.cols (r₀ d) (k d) i.4 (end d) w.reader (c.stops.ensures.1 c.if-stops.false),
      with_row d,
    )

-- once a status is set
module _ (c : After-min-rest) where
  abbrev halt : Then-stops
  halt = (goal.at.After-min-rest c).Then-stops

  abbrev row : After-band-1
  row = after-row (goal.at.Then-stops halt).After-stops

  rest : c.min-rest.result ≡ min ((s row).args.count - k row - 1) (end row).remaining
  rest = c.min-rest.ensures

  all-bits : (n row).loop-k.bits + row.decode_component-row.result.value + c.min-rest.result ≡ used row (s row).args.count
  all-bits = (λ j. with_row row j + rest j) ∙ sym (with_rest row (halt.stops.ensures.0 halt.if-stops.true))

pub returns-then-stops : goal.returns-then-stops
returns-then-stops c =
    let l = (goal.at.returns-then-stops c).After-min-rest in
    let z = l.clear_from.ensures in
    let t = halt l in
    let d = row l in
    let w = stands d _ (same d) in
    let i = (n d).loop-k.invariant in
    let a = (s d).args in
    let first = first-set (p d) (sel d) a.shape.m a.shape.cols (r₀ d) (k d) i.4 (end d) w.reader a.count (omega (arith, (n d).loop-k-test.true)) (t.stops.ensures.0 t.if-stops.true) in record {
      value = c.one.ensures ∙ (λ j. counts_of (first j) (all-bits l j));
      band_after = z ∙ walk-stops (p d) (sel d) a.shape.m a.shape.cols (r₀ d) _ _ _ _ _ (end d) w (s d).requires.ready.1 (t.stops.ensures.0 t.if-stops.true) _ refl;
    }

pub returns : goal.returns
returns c =
    let a = c.args in
    let p = a.packet.now in
    let sel = selector p a.i in
    let r = as_reader a.reader in
    let l = c.loop-k in
    let done : l.k ≡ a.count = omega (arith, c.loop-k-test.false) in
    let first = sym l.invariant.4 ∙ ap (λ (n : ℕ). first_status p sel a.shape.m a.shape.cols n r) done in
    let bits = l.invariant.5 ∙ ap (λ (n : ℕ). rows_used p sel a.shape.m a.shape.cols n r) done in record {
      value = c.one-2.ensures ∙ (λ j. counts_of (first j) (bits j));
      band_after = walk-done p sel a.shape.m a.shape.cols r _ l.band (l.k * a.shape.cols) (a.count - l.k) l.k (as_reader l.r) l.invariant.0 (omega (arith, done));
    }

pub selector_of-selector-requires : goal.selector_of-selector-requires
selector_of-selector-requires c = omega (arith, c.args.shape.few)

pub offset_bounds-band-at : goal.offset_bounds-band-at
offset_bounds-band-at c = omega (arith, (inside (goal.at.offset_bounds-band-at c).In-loop-k).fits, c.loop-k.invariant.1, c.well_formed)

pub slice_bounds-decode_component-count : goal.slice_bounds-decode_component-count
slice_bounds-decode_component-count c = omega arith

pub slice_bounds-decode_component-start : goal.slice_bounds-decode_component-start
slice_bounds-decode_component-start c = omega arith

pub slice_bounds-decode_component-end : goal.slice_bounds-decode_component-end
slice_bounds-decode_component-end c = (inside (goal.at.slice_bounds-decode_component-end c).In-loop-k).fits

pub clear_from-requires : goal.clear_from-requires
clear_from-requires c = let d = after-row (goal.at.clear_from-requires c).After-stops in omega (arith, same d, (inside (n d)).fits)

pub overflow_sub-count : goal.overflow_sub-count
overflow_sub-count c = omega (arith, (n (after-row (goal.at.overflow_sub-count c).After-stops)).loop-k-test.true)

pub overflow_sub-count-then-stops : goal.overflow_sub-count-then-stops
overflow_sub-count-then-stops c = omega (arith, (n (after-row (goal.at.overflow_sub-count-then-stops c).After-stops)).loop-k-test.true)

pub overflow_add-bits-then-stops : goal.overflow_add-bits-then-stops
overflow_add-bits-then-stops c = let d = row c in omega (arith, all-bits c, used-most (p d) (sel d) (s d).args.shape.m (s d).args.shape.cols (r₀ d) (s d).requires.ready.1 (s d).args.count, (s d).requires.ready.0.room)

pub shape_of-band-then-stops : goal.shape_of-band-then-stops
shape_of-band-then-stops c = let l = (goal.at.shape_of-band-then-stops c).After-min-rest in let d = row l in l.clear_from.auto.band ∙ same d ∙ (n d).loop-k.invariant.1

pub overflow_mul-at : goal.overflow_mul-at
overflow_mul-at c = omega (arith, (inside (goal.at.overflow_mul-at c).In-loop-k).fits, c.loop-k.invariant.1, c.well_formed)

pub shape_of-band : goal.shape_of-band
shape_of-band c = c.loop-k.invariant.1
