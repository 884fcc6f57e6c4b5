-- `BitReader::width_bit_by_bit` meets its contract. Assumes nothing.
use Rattle.std.proofs.Common.{ap, ◌∙◌}
use Rattle.format.specs.Reader.{grown, shrunk, find_of, update_second}
use Rattle.format.proofs.UpdateLaws.{update-zero, update-stopped, update-second, second-stopped, update-grown, update-shrunk}
use Rattle.bits.specs.View.{as_reader, as_taken}
use Rattle.bits.proofs.BitReader.width_bit_by_bit.Goals.{then-a-eq0-via-then-a-eq0, then-a-eq0-via-else-a-eq0+then-stops}
use Rattle.bits.proofs.BitReader.width_bit_by_bit.Goals as goal

pub returns-then-a-eq0-clause-value : goal.returns-then-a-eq0-clause-value
returns-then-a-eq0-clause-value c =
    let g = c.args in
    let a = c.read-a in
    elim c.then-a-eq0.branch [
      | then-a-eq0-via-then-a-eq0 w ↦ update-zero g.packet.now (as_reader g.self) g.width (as_taken a.result) a.ensures.value w.if-a-eq0.true
      | then-a-eq0-via-else-a-eq0+then-stops w ↦
          update-stopped g.packet.now (as_reader g.self) g.width (as_taken a.result) a.ensures.value w.if-a-eq0.false (w.stops.ensures.0 w.if-stops.true)
    ]

pub returns-then-stops-2-clause-value : goal.returns-then-stops-2-clause-value
returns-then-stops-2-clause-value c =
    let g = c.args in
    let a = c.read-a in
    let b = c.read-b in
    second-stopped g.packet.now g.width (as_taken b.result) (c.stops-2.ensures.0 c.if-stops-2.true)
    ∙ ap (update_second g.packet.now g.width) b.ensures.value
    ∙ update-second g.packet.now (as_reader g.self) g.width (as_taken a.result) a.ensures.value c.if-a-eq0.false (c.stops.ensures.1 c.if-stops.false)

pub returns-then-b-eq0-clause-value : goal.returns-then-b-eq0-clause-value
returns-then-b-eq0-clause-value c =
    let g = c.args in
    let a = c.read-a in
    let b = c.read-b in
    ap (grown g.width) c.unary-u.ensures.value
    ∙ update-grown g.packet.now (as_reader g.self) g.width (as_taken a.result) a.ensures.value c.if-a-eq0.false (c.stops.ensures.1 c.if-stops.false)
    (as_taken b.result) b.ensures.value (c.stops-2.ensures.1 c.if-stops-2.false) c.if-b-eq0.true

pub returns-clause-value : goal.returns-clause-value
returns-clause-value c =
    let g = c.args in
    let a = c.read-a in
    let b = c.read-b in
    let same = c.find-f.ensures.value ∙ ap (find_of g.packet.now (as_reader b.result.reader)) c.saturating_sub.ensures in
    simp c.saturating_sub-2.ensures (ap (shrunk g.width) same)
    ∙ update-shrunk g.packet.now (as_reader g.self) g.width (as_taken a.result) a.ensures.value c.if-a-eq0.false (c.stops.ensures.1 c.if-stops.false)
    (as_taken b.result) b.ensures.value (c.stops-2.ensures.1 c.if-stops-2.false) c.if-b-eq0.false
