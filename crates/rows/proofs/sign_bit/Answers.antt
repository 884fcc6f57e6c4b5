-- `sign_bit` meets its contract. Assumes nothing.
use Rattle.std.proofs.Common.{rules, ◌∙◌, arith, w32, SFits}
use mir.ValLaws.{to_z-of_z}
use Rattle.rows.specs.Word.{sign_bit_of}
use Rattle.rows.proofs.sign_bit.Goals as goal

pub returns-then-v-gt0 : goal.returns-then-v-gt0
unfolding sign_bit_of
returns-then-v-gt0 c =
    let z = to_z-of_z w32 c.args.v c.ranges.v in
    let range : SFits w32 c.with_sign.result = search rules in
    record {
      value = simp (z, rw z at c.if-v-gt0.true, to_z-of_z w32 c.with_sign.result range ∙ c.with_sign.ensures);
      used_bound = omega arith;
    }

pub returns : goal.returns
unfolding sign_bit_of
returns c =
    let z = to_z-of_z w32 c.args.v c.ranges.v in
    record {
      value = simp (z, rw z at c.if-v-gt0.false);
      used_bound = omega arith;
    }

pub with_sign-requires : goal.with_sign-requires
with_sign-requires c = c.if-v-gt0.true
