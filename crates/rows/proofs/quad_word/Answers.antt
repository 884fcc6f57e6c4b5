-- `quad_word` meets its contract. Assumes nothing.
use Rattle.std.proofs.Common.{rules, arith, ◌∙◌, ◌*◌, ◌%◌, ◌^◌, w32, SFits}
use mir.ValLaws.{to_z-of_z}
use Rattle.rows.specs.Word.{split_of, quad_of}
use Rattle.rows.proofs.WordLaws.{scaled-zero, front-lt}
use Rattle.rows.proofs.quad_word.Goals as goal

pub with_bit-requires : goal.with_bit-requires
with_bit-requires c = let a = c.args in front-lt a.word a.width (omega arith) (omega arith)

pub with_bit-requires-2 : goal.with_bit-requires-2
with_bit-requires-2 c = let a = c.args in front-lt (a.word * 2 ^ a.width % 2 ^ 64) a.width (omega arith) (omega arith)

pub with_bit-requires-3 : goal.with_bit-requires-3
with_bit-requires-3 c = let a = c.args in front-lt (a.word * 2 ^ a.width % 2 ^ 64 * 2 ^ a.width % 2 ^ 64) a.width (omega arith) (omega arith)

pub with_bit-requires-4 : goal.with_bit-requires-4
with_bit-requires-4 c = let a = c.args in front-lt (a.word * 2 ^ a.width % 2 ^ 64 * 2 ^ a.width % 2 ^ 64 * 2 ^ a.width % 2 ^ 64) a.width (omega arith) (omega arith)

pub returns : goal.returns
unfolding quad_of split_of
returns c =
    let range1 : SFits w32 c.with_bit.result = search rules in
    let range2 : SFits w32 c.with_bit-2.result = search rules in
    let range3 : SFits w32 c.with_bit-3.result = search rules in
    let range4 : SFits w32 c.with_bit-4.result = search rules in (
      simp (
        to_z-of_z w32 c.with_bit.result range1 ∙ c.with_bit.ensures,
        to_z-of_z w32 c.with_bit-2.result range2 ∙ c.with_bit-2.ensures,
        to_z-of_z w32 c.with_bit-3.result range3 ∙ c.with_bit-3.ensures,
        to_z-of_z w32 c.with_bit-4.result range4 ∙ c.with_bit-4.ensures,
        c.nonzero-n1.ensures.0,
        c.nonzero.ensures.0,
        c.nonzero-2.ensures.0,
        c.nonzero-3.ensures.0,
        scaled-zero,
      ),
      omega (arith, c.nonzero-n1.ensures.1, c.nonzero.ensures.1, c.nonzero-2.ensures.1, c.nonzero-3.ensures.1),
    )
