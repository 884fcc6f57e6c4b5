-- `BitReader::read4` meets its contract. Assumes nothing.
use Rattle.std.proofs.Common.{sym, ◌∙◌, ◌+◌, ◌*◌, arith}
use Rattle.format.proofs.FourLaws.{four-within}
use Rattle.format.proofs.BitLaws.{prefix, middle, bits-lt}
use Rattle.format.specs.Coefficients.{four_of}
use Rattle.bits.specs.View.{as_reader}
use Rattle.bits.proofs.BitReader.read4.Goals as goal

pub returns-then-n-self : goal.returns-then-n-self
returns-then-n-self c =
    let start = c in
    let g = start.args in
    let s = g.packet.now in
    let p = g.self.place in
    let w = g.self.cache in
    let holds = start.requires.ready.bits in
    let a = c.top.ensures ∙ prefix s p w g.n holds (omega arith) in
    let b = c.top-then-n-self.ensures ∙ middle s p w g.n g.n holds (omega arith) in
    let c' = c.top-then-n-self-2.ensures ∙ middle s p w (2 * g.n) g.n holds (omega arith) in
    let d = c.top-then-n-self-3.ensures ∙ middle s p w (3 * g.n) g.n holds (omega arith) in record {
      value = simp (a, b, c', d, c.skip.ensures.value) (sym (four-within s (as_reader g.self) g.n c.if-n-self.true));
      ready_below_four = record {
        ready = c.skip.ensures.still_ready;
        a = rw a (bits-lt s p g.n);
        b = rw b (bits-lt s (p + g.n) g.n);
        c = rw c' (bits-lt s (p + 2 * g.n) g.n);
        d = rw d (bits-lt s (p + 3 * g.n) g.n);
      };
    }

pub returns : goal.returns
unfolding four_of
returns c =
    let a = c.read-a in
    let b = c.read-b in
    let c' = c.read-c in
    let d = c.read-d in record {
      value = simp (← a.ensures.value, ← b.ensures.value, ← c'.ensures.value, ← d.ensures.value);
      ready_below_four = record { ready = d.ensures.ready_below.ready; a = a.ensures.ready_below.bound; b = b.ensures.ready_below.bound; c = c'.ensures.ready_below.bound; d = d.ensures.ready_below.bound };
    }
