-- `fields::size::Size::colour_size` meets its contract. Assumes nothing.
use Rattle.std.proofs.Common.{ap, ℕ, ◌*◌, ◌/◌, arith, mul-le-mul}
use Rattle.fields.proofs.size.Size.colour_size.Goals as goal

pub overflow_mul-result : goal.overflow_mul-result
overflow_mul-result c =
    let r = c.plane_rows in
    omega (arith, mul-le-mul {n₁ = r.result} {m₁ = c.args.self.width / 2} {n₂ = 65536} {m₂ = 65536} (omega arith) (omega arith))

pub returns : goal.returns
returns c = ap (λ (r : ℕ). r * (c.args.self.width / 2)) c.plane_rows.ensures.0
