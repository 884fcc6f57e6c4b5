-- `signs` meets its contract. Assumes nothing.
use Rattle.std.proofs.Common.{rules, ◌∙◌, ap, arith, ℤ, w32, SFits}
use mir.ValLaws.{to_z-of_z}
use Rattle.rows.proofs.SignWord.{signs-word}
use Rattle.rows.specs.Word.{sign_bit_of}
use Rattle.bits.specs.View.{as_reader, as_four}
use Rattle.rows.proofs.signs.Goals.{After-ahead-word, After-sign_bit-a, After-sign_bit-b, After-sign_bit-c, After-sign_bit-d}
use Rattle.rows.proofs.signs.Goals as goal

pub skip-requires : goal.skip-requires
skip-requires c =
    let s3 = (goal.at.skip-requires c).After-sign_bit-c in
    let s2 = (goal.at.After-sign_bit-c s3).After-sign_bit-b in
    let s1 = (goal.at.After-sign_bit-b s2).After-sign_bit-a in
    let h = s1 in
    record {
      ready = h.requires.ready;
      left = omega (arith, s1.sign_bit-a.ensures.used_bound, s2.sign_bit-b.ensures.used_bound, s3.sign_bit-c.ensures.used_bound, c.sign_bit-d.ensures.used_bound, h.if-reader-lt4.false);
    }

pub returns : goal.returns
returns c =
    let s4 = (goal.at.returns c).After-sign_bit-d in
    let s3 = (goal.at.After-sign_bit-d s4).After-sign_bit-c in
    let s2 = (goal.at.After-sign_bit-c s3).After-sign_bit-b in
    let s1 = (goal.at.After-sign_bit-b s2).After-sign_bit-a in
    let h = (goal.at.After-sign_bit-a s1).After-ahead-word in
    let g = h in
    let a = s1.sign_bit-a in
    let b = s2.sign_bit-b in
    let c' = s3.sign_bit-c in
    let d = s4.sign_bit-d in
    let a0 = s1.value in
    let b0 = s2.value-2 in
    let c0 = s3.value-3 in
    let d0 = s4.value-4 in
    let fa : SFits w32 a0.result = search (rules, a0) in
    let fb : SFits w32 b0.result = search (rules, b0) in
    let fc : SFits w32 c0.result = search (rules, c0) in
    let fd : SFits w32 d0.result = search (rules, d0) in
    let ra : SFits w32 a.result.value = search rules in
    let rb : SFits w32 b.result.value = search rules in
    let rc : SFits w32 c'.result.value = search rules in
    let rd : SFits w32 d.result.value = search rules in
    let w = h.ahead-word.result in
    let ua = a.ensures.used_bound in
    let ub = b.ensures.used_bound in
    let uc = c'.ensures.used_bound in record {
      value = simp (
        to_z-of_z w32 a.result.value ra,
        to_z-of_z w32 b.result.value rb,
        to_z-of_z w32 c'.result.value rc,
        to_z-of_z w32 d.result.value rd,
        c.skip.ensures.value,
      )
          (signs-word g.args.packet.now (as_reader g.args.reader) w h.ahead-word.ensures h.if-reader-lt4.false g.args.selector.number (as_four g.args.q)
          a.result b.result c'.result d.result (omega arith) (omega arith) (omega arith)
          (a.ensures.value ∙ ap (λ (m : ℤ). sign_bit_of m w 0) (to_z-of_z w32 a0.result fa ∙ a0.ensures))
          (b.ensures.value ∙ ap (λ (m : ℤ). sign_bit_of m w a.result.used) (to_z-of_z w32 b0.result fb ∙ b0.ensures))
          (c'.ensures.value ∙ ap (λ (m : ℤ). sign_bit_of m w b.result.used) (to_z-of_z w32 c0.result fc ∙ c0.ensures))
          (d.ensures.value ∙ ap (λ (m : ℤ). sign_bit_of m w c'.result.used) (to_z-of_z w32 d0.result fd ∙ d0.ensures)));
      still_ready = c.skip.ensures.still_ready;
    }
