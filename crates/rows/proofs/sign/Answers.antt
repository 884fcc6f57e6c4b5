-- `sign` meets its contract. Assumes nothing.
use Rattle.std.proofs.Common.{rules, ◌∙◌, w32, SFits}
use mir.ValLaws.{to_z-of_z}
use Rattle.format.specs.Coefficients.{sign_of}
use Rattle.rows.proofs.sign.Goals.{After-read-t}
use Rattle.rows.proofs.sign.Goals as goal

pub returns-then-z-gt0 : goal.returns-then-z-gt0
unfolding sign_of
returns-then-z-gt0 c =
    let t = (goal.at.returns-then-z-gt0 c).After-read-t in
    let a = t in
    let z = to_z-of_z w32 a.args.z a.ranges.z in
    let range : SFits w32 c.with_sign.result = search rules in
    record {
      value = simp (z, rw z at t.if-z-gt0.true, ← t.read-t.ensures.value, to_z-of_z w32 c.with_sign.result range ∙ c.with_sign.ensures);
      ready = t.read-t.ensures.ready_below.ready;
    }

pub returns : goal.returns
unfolding sign_of
returns c =
    let z = to_z-of_z w32 c.args.z c.ranges.z in
    record {
      value = simp (z, rw z at c.if-z-gt0.false);
      ready = c.requires;
    }

pub with_sign-requires : goal.with_sign-requires
with_sign-requires c = c.if-z-gt0.true
