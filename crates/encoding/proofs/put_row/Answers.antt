-- `put_row` meets its contract: the bits taken, with those that are left, are the row's. Assumes nothing.
use Rattle.std.proofs.Common.{◌≡◌, ◌++◌, sym, ap, ◌∙◌, List, ℕ, ◌+◌, ◌/◌, ℤ, length, length-append, arith}
use Rattle.format.specs.Writing.{number_bits, update_bits, group_width, row_bits}
use Rattle.encoding.specs.Numbers.{line}
use Rattle.encoding.specs.Turn.{rest_bits}
use Rattle.codes.proofs.Pushed.{length-number}
use Rattle.encoding.proofs.Turns.{row_of}
use Rattle.encoding.proofs.Progress.{Laws, can-less, progress_start, progress-next, progress-end, can-values, can-tail}
use Rattle.encoding.proofs.put_row.Given.{Over}
use Rattle.encoding.proofs.put_row.Goals as goal

laws : (g : Over) → Laws g.S.Sink.Takes g.S.Sink.CanTake
laws g = let l = g.met.S.Sink in record { none = l.takes_none; both = l.takes_both; after = l.can_after }

-- the bits of a row, and of the first width
groups : (l : List ℤ) (g : ℕ) → g ≡ (length l + 3) / 4 → row_bits (length l) (line l) ≡ update_bits 0 (group_width (line l) 0) ++ rest_bits (line l) 0 g
groups l g e = rw e (row_of l)

all-bits : (l : List ℤ) (g : ℕ) → g ≡ (length l + 3) / 4 → length (row_bits (length l) (line l)) ≡ length (update_bits 0 (group_width (line l) 0)) + length (rest_bits (line l) 0 g)
all-bits l g e = ap length (groups l g e) ∙ length-append (update_bits 0 (group_width (line l) 0)) (rest_bits (line l) 0 g)

bits-of : (n v : ℕ) (x : List ℕ) → number_bits n v ≡ x → n ≡ length x
bits-of n v x e = sym (length-number n v) ∙ ap length e

pub put-requires : goal.put-requires
put-requires g c =
    let u = rw c.width_of-w.ensures.0 at c.update_code.ensures.0 in
    let n = c.div_ceil-g.result in
    can-less _ _ (laws g) _ _ _ c.requires (omega (arith, bits-of _ _ _ u, all-bits c.args.row.numbers.now n (omega (arith, c.div_ceil-g.ensures))))

pub loop-j-init : goal.loop-j-init
loop-j-init g c =
    let u = rw c.width_of-w.ensures.0 at c.update_code.ensures.0 in
    let n = c.div_ceil-g.result in
    let r = g.met.S.Sink.can_after _ _ _ _ (length (rest_bits (line c.args.row.numbers.now) 0 n)) c.requires c.put.ensures (omega (arith, ap length u, all-bits c.args.row.numbers.now n (omega (arith, c.div_ceil-g.ensures)))) in
    (omega arith, c.width_of-w.ensures.0, progress_start _ _ (laws g) (line c.args.row.numbers.now) n _ r)

pub put_values-requires : goal.put_values-requires
put_values-requires g c =
    let l = c.loop-j in
    let i = l.invariant in
    (omega (arith, c.args.row.short, c.div_ceil-g.ensures), i.1, rw i.1 (can-values _ _ (laws g) (line c.args.row.numbers.now) c.div_ceil-g.result _ _ l.j c.loop-j-test.true i.2))

pub put-requires-in-loop-j : goal.put-requires-in-loop-j
put-requires-in-loop-j g c =
    let l = c.loop-j in
    let i = l.invariant in
    let v = rw i.1 at c.put_values.ensures in
    let t = can-tail _ _ (laws g) (line c.args.row.numbers.now) c.div_ceil-g.result _ _ _ l.j c.loop-j-test.true i.2 v in
    can-less _ _ (laws g) _ _ _ t (omega (arith, bits-of _ _ _ c.turn-t.ensures.bits))

pub loop-j-preserved : goal.loop-j-preserved
loop-j-preserved g c =
    let l = c.loop-j in
    let i = l.invariant in
    let e = c.turn-t.ensures in
    let v = rw i.1 at c.put_values.ensures in
    let t = rw e.bits at c.put-in-loop-j.ensures in
    (omega (arith, e.bounds), e.groups.1, progress-next _ _ (laws g) (line c.args.row.numbers.now) c.div_ceil-g.result _ _ _ _ l.j _ c.loop-j-test.true e.groups.0 i.2 v t)

pub returns : goal.returns
returns g c =
    let l = c.loop-j in
    let n = c.div_ceil-g.result in
    let row = c.args.row.numbers.now in
    let u = rw (c.update_code.ensures.0, c.width_of-w.ensures.0) at c.put.ensures in
    rw (groups row n (omega (arith, c.div_ceil-g.ensures))) (g.met.S.Sink.takes_both _ _ _ _ _ u (progress-end _ _ (laws g) (line row) n _ _ l.j c.loop-j-test.false l.invariant.2))
