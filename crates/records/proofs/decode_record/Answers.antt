-- `decode_record` meets its contract. Assumes nothing.
use Rattle.std.proofs.Common.{◌≡◌, sym, ap, ◌∙◌, ℕ, ◌*◌, ◌≤◌, arith}
use Rattle.format.specs.Reader.{Reader, start_of}
use Rattle.format.specs.Packets.{record_length}
use Rattle.format.specs.Coefficients.{zeros}
use Rattle.records.proofs.Walk.{rows-le, record-none, record-coded}
use Rattle.records.proofs.decode_record.Goals.{After-band-1, After-decode_rows, After-kind, After-new-start, After-record_length-bytes, Then-bytes-eq0}
use Rattle.records.proofs.decode_record.Goals as goal

pub returns-then-bytes-eq0 : goal.returns-then-bytes-eq0
returns-then-bytes-eq0 c =
    let b = (goal.at.returns-then-bytes-eq0 c).After-band-1 in
    let t = (goal.at.After-band-1 b).Then-bytes-eq0 in
    let s = t in
    let a = s.args in
    let p = a.packet.now in
    let empty = record-none p a.shape.m a.shape.cols a.i a.offset (sym t.record_length-bytes.ensures.0 ∙ t.if-bytes-eq0.true) in
    record {
      value = c.none.ensures ∙ empty.0;
      band_after = b.fill.ensures.after (λ y e. e) ∙ ap zeros s.requires.size ∙ empty.1;
    }

count-le : (c : After-kind) → c.kind.result * c.args.shape.m ≤ 3 * c.args.shape.m
count-le c = rows-le c.kind.result c.args.shape.m (omega (arith, c.kind.ensures.1))

pub new-start-requires : goal.new-start-requires
new-start-requires c =
    (rw c.bytes.ensures.0 c.bytes.ensures.1, omega (arith, c.requires.in_bounds.1), omega (arith, c.record_length-bytes.ensures.1))

pub decode_rows-requires : goal.decode_rows-requires
decode_rows-requires c =
    let f = (goal.at.decode_rows-requires c).After-kind in
    let s = f in
    let a = s.args in record {
      ready = (rw c.bytes.ensures.0 at c.new-start.ensures.ready, ap (λ (r : Reader). r.status) c.new-start.ensures.value);
      in_bounds = (omega (arith, s.requires.in_bounds.0), count-le f);
      size = ap (λ (k : ℕ). k * a.shape.m * a.shape.cols) f.kind.ensures.0 ∙ sym s.requires.size;
    }

-- what the rows gave is the record's
pub returns : goal.returns
returns c =
    let d = (goal.at.returns c).After-decode_rows in
    let n = (goal.at.After-decode_rows d).After-new-start in
    let f = (goal.at.After-new-start n).After-kind in
    let l = (goal.at.After-kind f).After-record_length-bytes in
    let s = l in
    let a = s.args in
    let p = a.packet.now in
    let some : record_length p a.i ≡ 0 → ⊥ = λ e. f.if-bytes-eq0.false (l.record_length-bytes.ensures.0 ∙ e) in
    let count = ap (λ (k : ℕ). k * a.shape.m) f.kind.ensures.0 in
    let start = n.new-start.ensures.value ∙ ap (start_of a.offset) l.record_length-bytes.ensures.0 in
    let coded = record-coded p a.shape.m a.shape.cols a.i a.offset _ _ some count start in
    record {
      value = d.decode_rows.ensures.value ∙ coded.0;
      band_after = d.decode_rows.ensures.band_after ∙ coded.1;
    }

pub record_length-bytes-requires : goal.record_length-bytes-requires
record_length-bytes-requires c = omega (arith, c.requires.in_bounds.0)

pub overflow_mul-count : goal.overflow_mul-count
overflow_mul-count c = omega (arith, count-le (goal.at.overflow_mul-count c).After-kind, c.args.shape.few)
