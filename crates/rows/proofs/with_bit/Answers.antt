-- `with_bit` meets its contract. Assumes nothing.
use Rattle.std.proofs.Common.{eq-eqb, ne_eqb, arith, ◌≡◌, ap, ◌∙◌, ℤ, pos, neg_ℤ, ◌-ℤ◌, w32, to_z, of_z}
use lib.IntN.{+ℤ_idl}
use mir.ValLaws.{to_z-of_z, to_z_pos}
use Rattle.wrap32.proofs.Laws.{neg-fits}
use Rattle.rows.specs.Word.{signed_of}
use Rattle.rows.proofs.with_bit.Goals.{Start}
use Rattle.rows.proofs.with_bit.Goals as goal

negated : (c : Start) → pos 0 -ℤ to_z w32 c.args.m ≡ neg_ℤ (pos c.args.m)
negated c = ap (λ (z : ℤ). pos 0 -ℤ z) (to_z_pos w32 c.args.m (omega arith)) ∙ +ℤ_idl (neg_ℤ (pos c.args.m))

pub overflow_sub-result : goal.overflow_sub-result
overflow_sub-result c = rw (negated (goal.at.overflow_sub-result c).Start) (neg-fits c.args.m (omega arith))

pub returns-then-bit-eq0 : goal.returns-then-bit-eq0
unfolding signed_of
returns-then-bit-eq0 c = simp (eq-eqb _ _ c.if-bit-eq0.true) (to_z_pos w32 c.args.m (omega arith))

pub returns-else-bit-eq0 : goal.returns-else-bit-eq0
unfolding signed_of
returns-else-bit-eq0 c =
    let m = c.args.m in
    simp (ne_eqb _ _ c.if-bit-eq0.false) (ap (λ (z : ℤ). to_z w32 (of_z w32 z)) (negated (goal.at.returns-else-bit-eq0 c).Start) ∙ to_z-of_z w32 (neg_ℤ (pos m)) (neg-fits m (omega arith)))
