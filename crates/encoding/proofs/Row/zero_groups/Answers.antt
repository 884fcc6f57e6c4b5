-- `zero_groups` meets its contract. Assumes nothing.
use Rattle.std.proofs.Common.{◌≡◌, ◌+◌, ◌-◌, ap, ◌∙◌, arith}
use Rattle.format.specs.Writing.{zero_groups}
use Rattle.encoding.specs.Numbers.{line}
use Rattle.encoding.proofs.Runs.{zero-end, zero-none, zero-on}
use Rattle.encoding.proofs.Row.zero_groups.Goals as goal

pub loop-k-init : goal.loop-k-init
loop-k-init c =
    let s = c.args in
    let a : s.j ≡ s.j + 0 = omega arith in
    let b : s.g ≡ s.g - 0 = omega arith in
    (λ i. zero_groups (line s.self.numbers.now) (a i) (b i)) ∙ omega arith

pub returns-then-width_of-ne0 : goal.returns-then-width_of-ne0
returns-then-width_of-ne0 c =
    let s = c.args in
    let z = zero-none (line s.self.numbers.now) (s.j + c.loop-k.k) (s.g - c.loop-k.k) (λ q. omega (arith, c.width_of.ensures.0, q, c.if-width_of-ne0.true)) in
    omega (arith, c.loop-k.invariant, z)

pub loop-k-preserved : goal.loop-k-preserved
loop-k-preserved c =
    let s = c.args in
    zero-on (line s.self.numbers.now) s.j s.g c.loop-k.k (omega arith) c.loop-k.invariant (omega (arith, c.width_of.ensures.0, c.if-width_of-ne0.false))

pub returns : goal.returns
returns c =
    let s = c.args in
    let f = line s.self.numbers.now in
    let n : s.g - c.loop-k.k ≡ 0 = omega arith in
    let z = ap (zero_groups f (s.j + c.loop-k.k)) n ∙ zero-end f (s.j + c.loop-k.k) in
    omega (arith, c.loop-k.invariant, z)
