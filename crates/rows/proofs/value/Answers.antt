-- `value` meets its contract. Assumes nothing.
use Rattle.std.proofs.Common.{rules, ◌≡◌, ap, sym, ◌∙◌, ℕ, ◌-◌, ◌+◌, ◌*◌, ◌^◌, ◌%◌, ◌<◌, ◌≤◌, lt_of_lt_of_le, arith, pos, shl_lt, pow_mono, w32, w64, SFits, to_z}
use mir.ValLaws.{to_z-of_z, to_z_pos}
use Rattle.wrap32.specs.Cut.{wrap}
use Rattle.rows.proofs.Numbers.{le-shl, value-shl, value-plain, value_none, value-some}
use Rattle.rows.proofs.value.Goals.{Else-u-eq0}
use Rattle.rows.proofs.value.Goals as goal

pub returns-then-selector-eq0 : goal.returns-then-selector-eq0
returns-then-selector-eq0 c = to_z_pos w32 c.args.u (omega arith) ∙ sym (value-plain c.args.u c.args.selector.number c.if-selector-eq0.true)

pub returns-then-u-eq0 : goal.returns-then-u-eq0
returns-then-u-eq0 c = sym (value_none c.args.u c.args.selector.number c.if-u-eq0.true)

-- the shifted number
module _ (c : Else-u-eq0) where
  abbrev u : ℕ
  u = c.args.u

  abbrev k : ℕ
  k = c.args.selector.number - 1

  shifted : (2 * u + 1) * 2 ^ k % 2 ^ 64 ≡ (2 * u + 1) * 2 ^ k
  shifted = value-shl u k (omega arith) (omega (arith, c.args.selector.small))

  small : (2 * u + 1) * 2 ^ k < 2 ^ 36
  small =
      let double : 2 * u + 1 < 2 ^ 21 = omega arith in
      let most : 21 + k ≤ 36 = omega (arith, c.args.selector.small) in
      lt_of_lt_of_le (shl_lt 21 k double) (pow_mono {j = 36} most)

  enough : u % 2 ≤ (2 * u + 1) * 2 ^ k
  enough = omega (arith, le-shl (2 * u + 1) k)

pub returns : goal.returns
returns c =
    let e = (goal.at.returns c).Else-u-eq0 in
    let v = (2 * u e + 1) * 2 ^ k e - u e % 2 in
    let range : SFits w32 c.cut32.result = search rules in
    let same : to_z w64 ((2 * u e + 1) * 2 ^ k e % 2 ^ 64 - u e % 2) ≡ pos v = ap (λ (x : ℕ). to_z w64 (x - u e % 2)) (shifted e) ∙ to_z_pos w64 v (omega (arith, small e)) in
    to_z-of_z w32 c.cut32.result range ∙ c.cut32.ensures ∙ ap wrap same ∙ sym (value-some (u e) e.args.selector.number e.if-selector-eq0.false e.if-u-eq0.false)

pub overflow_sub-u : goal.overflow_sub-u
overflow_sub-u c = let e = (goal.at.overflow_sub-u c).Else-u-eq0 in rw (shifted e) (enough e)

pub overflow_cast-u : goal.overflow_cast-u
overflow_cast-u c = let e = (goal.at.overflow_cast-u c).Else-u-eq0 in rw (shifted e) (record { sfits = omega (arith, small e) })
