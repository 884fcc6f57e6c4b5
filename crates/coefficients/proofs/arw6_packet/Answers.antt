-- `coefficients::arw6_packet` meets its contract. Assumes nothing.
use Rattle.std.proofs.Common.{sym, ◌∙◌, arith}
use Rattle.coefficients.proofs.TogetherLaws.{together-holds}
use Rattle.coefficients.proofs.arw6_packet.Goals as goal

pub returns-then-not-fits : goal.returns-then-not-fits
returns-then-not-fits c =
    let no = sym c.fits.ensures ∙ c.if-not-fits.true in
    let e = c.default.ensures in record {
      value = rw no (λ i. record { together = e.0 i; broken = e.1.0 i; spent = e.1.1.0 i; bits = e.1.1.1 i });
      band_after = simp no;
    }

pub new-requires : goal.new-requires
new-requires c = omega (arith, (together-holds _ _ _ _ _ (sym c.fits.ensures ∙ c.if-not-fits.false)).0)

pub invariant_of-shape : goal.invariant_of-shape
invariant_of-shape c =
    let told = together-holds _ _ _ _ _ (sym c.fits.ensures ∙ c.if-not-fits.false) in
    record { few = told.1.0; short = told.1.1 }

pub decode_packet-counts-requires : goal.decode_packet-counts-requires
decode_packet-counts-requires c = rw c.new.ensures (together-holds _ _ _ _ _ (sym c.fits.ensures ∙ c.if-not-fits.false)).2

pub returns : goal.returns
returns c =
    let e = rw c.new.ensures at c.decode_packet-counts.ensures in
    let yes = sym c.fits.ensures ∙ c.if-not-fits.false in
    let counts = e.value in
    record {
      value = simp yes (λ j. record { together = 1; broken = (counts j).broken; spent = (counts j).spent; bits = (counts j).bits });
      band_after = simp yes e.band_after;
    }
