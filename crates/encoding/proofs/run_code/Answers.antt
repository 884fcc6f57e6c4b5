-- `run_code` meets its contract. Assumes nothing.
use Rattle.std.proofs.Common.{rules, ◌-◌, ◌∙◌, arith}
use Rattle.encoding.proofs.Widths.{length_most, length_some}
use Rattle.encoding.proofs.Runs.{code-whole, code-part, part-most}
use Rattle.encoding.proofs.run_code.Goals as goal

pub zeros-requires : goal.zeros-requires
zeros-requires c = omega (arith, c.bit_length.ensures, length_most (c.args.g - 1) (omega arith) 16 (omega arith))

pub returns-then-k-g : goal.returns-then-k-g
returns-then-k-g c =
    let s = c.args in
    let e = c.bit_length.ensures.0 in
    let z = c.zeros.ensures in
    (z.1 ∙ rw e (code-whole s.g s.k (search rules)), omega (arith, e, z.0, length_most (s.g - 1) (omega arith) 16 (omega arith)))

pub overflow_sub-z : goal.overflow_sub-z
overflow_sub-z c = rw c.bit_length-z.ensures.0 (length_some c.args.k (omega arith) (omega arith))

pub new-requires : goal.new-requires
new-requires c =
    let m = part-most c.args.k (omega arith) in
    rw c.bit_length-z.ensures.0 (omega (arith, m.0), m.1)

pub returns : goal.returns
returns c =
    let s = c.args in
    let e = c.bit_length-z.ensures.0 in
    let n = c.new.ensures in
    (rw (n.0, n.1, e) (code-part s.g s.k (omega arith) (omega arith) (omega arith)), omega (arith, n.0, e, (part-most s.k (omega arith)).0))
