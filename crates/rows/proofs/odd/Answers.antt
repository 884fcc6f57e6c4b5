-- `odd` meets its contract. Assumes nothing.
use Rattle.std.proofs.Common.{rules, ◌≡◌, ap, ◌∙◌, Bool, not, ⊎_elim, ℕ, ◌%◌, ◌≤◌, ◌<◌, arith, eqb, pos, nat_abs, w32, SFits, to_z-of_z}
use mir.Val.{bool_byte}
use Rattle.format.proofs.BitLaws.{le-or-lt}
use Rattle.wrap32.proofs.Laws.{half-fits, odd-bit}
use Rattle.rows.proofs.odd.Goals as goal

bit : (n : ℕ) → bool_byte (not (eqb (n % 2) 0)) ≡ n % 2
bit n = ⊎_elim
    (λ (h : n % 2 ≤ 0). let e : n % 2 ≡ 0 = omega (arith, h) in simp e)
    (λ (h : 0 < n % 2). let e : n % 2 ≡ 1 = omega (arith, h) in simp e)
    (le-or-lt (n % 2) 0)

pub nonzero_rem-x : goal.nonzero_rem-x
nonzero_rem-x c = let f = c.ranges.x in simp to_z-of_z (search rules, half-fits _ f)

pub returns : goal.returns
returns c =
    let f = c.ranges.x in
    let r : SFits w32 c.from.result = search rules in
    to_z-of_z r ∙ (simp to_z-of_z at c.from.ensures) ∙ ap (λ (b : Bool). pos (bool_byte b)) (odd-bit c.args.x) ∙ ap pos (bit (nat_abs c.args.x))
