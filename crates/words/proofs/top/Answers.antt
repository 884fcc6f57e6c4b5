-- `words::top` meets its contract: the two shifts are one by 64 - n. Assumes nothing.
use mathlib.Core.Path.{◌≡◌, ap, ◌∙◌}
use Prim.Native.Nat.{◌-◌, ℕ, ◌+◌, ◌/◌, ◌^◌}
use native.Mathlib.Omega.{arith}
use lib.Pow.{shr-shr}
use Rattle.words.proofs.top.Goals as goal

pub returns : goal.returns
returns c =
    let n = c.args.n in
    let cut : 1 + (63 - n) ≡ 64 - n = omega arith in
    shr-shr c.args.word 1 (63 - n) ∙ ap (λ (k : ℕ). c.args.word / 2 ^ k) cut
