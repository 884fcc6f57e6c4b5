-- `fields::size::Size::work_length` meets its contract. Assumes nothing.
use Rattle.std.proofs.Common.{ap, ℕ, ◌+◌, ◌*◌, arith, mul-le-mul}
use Rattle.fields.proofs.size.Size.work_length.Goals as goal

pub overflow_mul-result-2 : goal.overflow_mul-result-2
overflow_mul-result-2 c =
    let n = c.stripes.result in
    omega (arith, mul-le-mul {n₁ = 16 * (n + 1)} {m₁ = c.args.self.width} {n₂ = 262144} {m₂ = 65536} (omega arith) (omega arith))

pub returns : goal.returns
returns c = ap (λ (n : ℕ). 16 * (n + 1) * c.args.self.width) c.stripes.ensures.0
