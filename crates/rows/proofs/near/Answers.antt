-- `near` meets its contract. Assumes nothing.
use Rattle.std.proofs.Common.{arith, to_z-of_z}
use Rattle.rows.proofs.LevelLaws.{level-le, level-gt}
use Rattle.rows.proofs.near.Goals as goal

pub returns-then-place-end : goal.returns-then-place-end
returns-then-place-end c =
    let y = c.args.level in
    let f = c.ranges.level in
    let both = c.if-place-end.true in
    (λ e. record { short = level-le y 12 (simp to_z-of_z at e); more = omega (arith, both); before = omega (arith, both) }, λ e near. omega (arith, near.short, level-gt y 12 (simp to_z-of_z at e)))
