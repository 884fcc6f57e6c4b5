-- `signs_apart` meets its contract. Assumes nothing.
use Rattle.std.proofs.Common.{rules, w32, SFits, ap, ◌∙◌, ℤ}
use mir.ValLaws.{to_z-of_z}
use Rattle.bits.specs.View.{as_reader}
use Rattle.format.specs.Coefficients.{sign_of, signs_of}
use Rattle.rows.proofs.signs_apart.Goals.{After-sign-b, After-sign-c, After-sign-d}
use Rattle.rows.proofs.signs_apart.Goals as goal

pub returns : goal.returns
unfolding signs_of
returns c =
    let d = (goal.at.returns c).After-sign-d in
    let c3 = (goal.at.After-sign-d d).After-sign-c in
    let b = (goal.at.After-sign-c c3).After-sign-b in
    let a = b in
    let g = a.args in
    let s = g.packet.now in
    let va : SFits w32 a.value.result = search rules in
    let vb : SFits w32 b.value-2.result = search rules in
    let vc : SFits w32 c3.value-3.result = search rules in
    let vd : SFits w32 d.value-4.result = search rules in
    let ra : SFits w32 a.sign-a.result.value = search rules in
    let rb : SFits w32 b.sign-b.result.value = search rules in
    let rc : SFits w32 c3.sign-c.result.value = search rules in
    let rd : SFits w32 d.sign-d.result.value = search rules in
    let A = a.sign-a.ensures.value ∙ ap (λ (z : ℤ). sign_of s z (as_reader g.reader)) (to_z-of_z w32 a.value.result va ∙ a.value.ensures) in
    let B = b.sign-b.ensures.value ∙ ap (λ (z : ℤ). sign_of s z (as_reader a.sign-a.result.reader)) (to_z-of_z w32 b.value-2.result vb ∙ b.value-2.ensures) in
    let C = c3.sign-c.ensures.value ∙ ap (λ (z : ℤ). sign_of s z (as_reader b.sign-b.result.reader)) (to_z-of_z w32 c3.value-3.result vc ∙ c3.value-3.ensures) in
    let D = d.sign-d.ensures.value ∙ ap (λ (z : ℤ). sign_of s z (as_reader c3.sign-c.result.reader)) (to_z-of_z w32 d.value-4.result vd ∙ d.value-4.ensures) in record {
      value = simp (
        to_z-of_z w32 a.sign-a.result.value ra,
        to_z-of_z w32 b.sign-b.result.value rb,
        to_z-of_z w32 c3.sign-c.result.value rc,
        to_z-of_z w32 d.sign-d.result.value rd,
        ← A,
        ← B,
        ← C,
        ← D,
      );
      still_ready = d.sign-d.ensures.ready;
    }
