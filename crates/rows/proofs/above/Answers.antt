-- `above` meets its contract. Assumes nothing.
use Rattle.std.proofs.Common.{rules, lt-ltb, ◌≡◌, refl, ap, ◌∙◌, zero, suc, arith, ℤ, pos, negsuc, nat_abs, w64, SFits, to_z-of_z}
use borrow.Author.Tests.{lt-leb}
use Rattle.std.specs.Int.{int_max}
use Rattle.rows.specs.Word.{level_of}
use Rattle.rows.proofs.above.Goals as goal

level-max : (y : ℤ) → nat_abs (int_max y (pos 0)) ≡ level_of y
unfolding level_of
level-max (pos zero) = refl
level-max (pos (suc n)) = simp (lt-ltb 0 (suc n) (omega arith), lt-leb (suc n) 0 (omega arith))
level-max (negsuc n) = refl

pub returns : goal.returns
returns c =
    let f = c.ranges.y in
    let g : SFits w64 c.max.result = search rules in
    ap nat_abs (to_z-of_z g ∙ simp to_z-of_z at c.max.ensures.value) ∙ level-max c.args.y
