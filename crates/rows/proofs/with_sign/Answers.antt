-- `with_sign` meets its contract. Assumes nothing.
use Rattle.std.proofs.Common.{eq-eqb, ne_eqb, ◌≡◌, ap, ◌∙◌, ℤ, pos, neg_ℤ, ◌-ℤ◌, w32, to_z, of_z, SFits}
use mir.ValLaws.{to_z-of_z}
use lib.IntN.{+ℤ_idl}
use Rattle.wrap32.proofs.Laws.{turned-fits}
use Rattle.rows.proofs.with_sign.Goals.{Start}
use Rattle.rows.proofs.with_sign.Goals as goal

difference : (c : Start) → pos 0 -ℤ to_z w32 (of_z w32 c.args.z) ≡ neg_ℤ c.args.z
difference c = ap (λ (z : ℤ). pos 0 -ℤ z) (to_z-of_z w32 c.args.z c.ranges.z) ∙ +ℤ_idl (neg_ℤ c.args.z)

fits : (c : Start) → SFits w32 (neg_ℤ c.args.z)
fits c = turned-fits c.args.z c.ranges.z c.requires

pub returns-then-bit-eq0 : goal.returns-then-bit-eq0
returns-then-bit-eq0 c = simp (eq-eqb _ _ c.if-bit-eq0.true, to_z-of_z w32 c.args.z c.ranges.z)

pub returns-else-bit-eq0 : goal.returns-else-bit-eq0
returns-else-bit-eq0 c =
    simp (ne_eqb _ _ c.if-bit-eq0.false) (ap (λ (z : ℤ). to_z w32 (of_z w32 z)) (difference (goal.at.returns-else-bit-eq0 c).Start) ∙ to_z-of_z w32 (neg_ℤ c.args.z) (fits (goal.at.returns-else-bit-eq0 c).Start))

pub overflow_sub-result : goal.overflow_sub-result
overflow_sub-result c = rw (difference (goal.at.overflow_sub-result c).Start) (fits (goal.at.overflow_sub-result c).Start)
