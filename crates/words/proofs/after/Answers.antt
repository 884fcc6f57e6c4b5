-- `words::after` meets its contract: the two words hold the 64 bits from the place on. Assumes nothing.
use mathlib.Core.Path.{◌≡◌, ap, ◌∙◌}
use Prim.Native.Nat.{ℕ, ◌+◌, ◌*◌, ◌/◌, ◌%◌, ◌^◌}
use native.Mathlib.Omega.{arith}
use Rattle.format.specs.Bits.{bits_at}
use Rattle.format.proofs.BitLaws.{bits-lt, bits-top}
use Rattle.words.proofs.WordLaws.{pair-bits}
use Rattle.words.proofs.after.Goals as goal

-- the sum is the 64 bits from n past the place on
held : (c : goal.After-top)
    → (let a = c.args in
    c.load.result * 2 ^ (a.place % 8 + a.n) % 2 ^ 64 + c.top.result ≡ bits_at a.s.now (a.place + a.n) 64)
held c =
    let a = c.args in
    let s = a.s.now in
    let i = a.place / 8 in
    let k = a.place % 8 + a.n in
    simp (c.load.ensures, c.top.ensures, c.load-2.ensures)
    (pair-bits s i k (λ j. (c.type_inv.s j).fits) (omega arith) ∙ ap (λ (p : ℕ). bits_at s p 64) (omega arith))

pub overflow_add-result : goal.overflow_add-result
overflow_add-result c =
    let a = c.args in
    omega (arith, held c, bits-lt a.s.now (a.place + a.n) 64)

pub returns : goal.returns
returns c =
    let a = c.args in
    ap (λ (w : ℕ). w / 2 ^ 7) (held c) ∙ bits-top a.s.now (a.place + a.n) 57 7
