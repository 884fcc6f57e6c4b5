-- `writer::write_coefficients` meets its contract. Assumes nothing.
use Rattle.std.proofs.Common.{◌≡◌, sym, ◌∙◌, length, arith, length-take-le}
use Rattle.format.specs.Coefficients.{Coefs}
use Rattle.assembly.specs.Tile.{Holds}
use Rattle.refusals.specs.declared.Refusal.TheVariants.{SliceTooShort}
use Rattle.refusals.specs.Number.{number_of}
use Rattle.refusals.proofs.Laws.{not_zero}
use Rattle.writer.specs.Write.{coefs_refusal}
use Rattle.writer.proofs.WriteLaws.{told_exit, refused-answer, refused-stream, too_long, no_room, written-answer, written-stream}
use Rattle.writer.proofs.write_coefficients.Goals as goal

pub returns-in_err-sizes : goal.returns-in_err-sizes
returns-in_err-sizes c =
    let a = c.args in
    let r = c.in_err-sizes.field-0.0 in
    let e : (v : Coefs) → Holds a.size.width a.size.height v a.work.now → number_of r ≡ coefs_refusal a.size.width a.size.height v (length a.stream.now) = λ v h. too_long a.size.width a.size.height (length a.stream.now) v _ (c.in_err-sizes.ensures.refusal v h) (not_zero r) in
    record {
      value = λ v h. told_exit _ _ c.from_residual.ensures.1 ∙ refused-answer _ _ _ (not_zero r) (e v h);
      stream_after = λ v h. refused-stream _ _ a.size.width a.size.height v a.stream.now (not_zero r) (e v h);
    }

pub returns-then-stream-n : goal.returns-then-stream-n
returns-then-stream-n c =
    let a = c.args in
    let e : (v : Coefs) → Holds a.size.width a.size.height v a.work.now → number_of SliceTooShort ≡ coefs_refusal a.size.width a.size.height v (length a.stream.now) =
    λ v h. no_room a.size.width a.size.height (length a.stream.now) v (sym (c.in_ok-sizes.ensures.refusal v h)) (omega (arith, (c.in_ok-sizes.ensures.sizes v h).long, c.if-stream-n.true)) in
    record {
      value = λ v h. refused-answer _ _ _ (not_zero SliceTooShort) (e v h);
      stream_after = λ v h. refused-stream _ _ a.size.width a.size.height v a.stream.now (not_zero SliceTooShort) (e v h);
    }

pub put_stream-requires : goal.put_stream-requires
put_stream-requires c =
    let k = c.requires in
    let d = c.in_ok-sizes.ensures.sizes k.v k.holds in
    record { v = k.v; holds = k.holds; measured = d; accepted = sym (c.in_ok-sizes.ensures.refusal k.v k.holds); long = length-take-le _ c.args.stream.now c.if-stream-n.false ∙ d.long }

pub returns : goal.returns
returns c =
    let a = c.args in
    record {
      value = λ v h. written-answer a.size.width a.size.height (length a.stream.now) v _ (sym (c.in_ok-sizes.ensures.refusal v h)) (c.in_ok-sizes.ensures.sizes v h).long c.if-stream-n.false;
      stream_after = λ v h. written-stream a.size.width a.size.height _ v a.stream.now _ (sym (c.in_ok-sizes.ensures.refusal v h)) (c.in_ok-sizes.ensures.sizes v h).long c.if-stream-n.false (c.put_stream.ensures v h);
    }
