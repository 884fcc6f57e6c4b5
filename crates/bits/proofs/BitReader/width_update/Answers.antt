-- `BitReader::width_update` meets its contract. Assumes nothing.
use Rattle.std.proofs.Common.{ap, sym, ◌∙◌, ◌≤◌, arith, lit≤}
use Rattle.format.specs.Reader.{Reader, skipped}
use Rattle.format.proofs.BitLaws.{prefix-of}
use Rattle.bits.specs.View.{as_reader, change_of}
use Rattle.bits.proofs.WordUpdate.{change-update}
use Rattle.bits.proofs.BitReader.width_update.Goals as goal

pub returns : goal.returns
returns g c =
    let s = c.args.packet.now in
    let r = c.args.self in
    let u = c.changed-u in
    let l = c.min.ensures in
    let short : u.result.used ≤ 57 = omega (arith, c.if-min-u.false, l) in
    let enough : u.result.used ≤ r.remaining = omega (arith, c.if-min-u.false, l) in
    let room : (change_of r.cache c.args.width).used ≤ u.result.used = rw u.ensures.0 (omega arith) in
    let whole = change-update s (as_reader r) c.args.width r.cache u.result.used (omega arith) (prefix-of s r.place r.cache u.result.used 57 c.requires.ready.bits short (lit≤ tt)) in record {
      value = ap (λ (t : Reader). record { value = u.result.value; reader = t }) c.skip.ensures.value
          ∙ (λ i. record { value = (u.ensures.0 i).value; reader = skipped (as_reader r) (u.ensures.0 i).used })
          ∙ sym (whole (omega arith) enough (c.stops.ensures.1 c.if-stops.false) room);
      still_ready = c.skip.ensures.still_ready;
    }
