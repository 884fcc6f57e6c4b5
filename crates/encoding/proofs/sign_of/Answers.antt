-- `sign_of` meets its contract. Assumes nothing.
use Rattle.std.proofs.Common.{◌∙◌, to_z-of_z, arith}
use Rattle.encoding.proofs.Sizes.{sign-none, sign-some}
use Rattle.encoding.proofs.sign_of.Goals as goal

pub returns-then-z-eq0 : goal.returns-then-z-eq0
returns-then-z-eq0 c = (c.zeros.ensures.1 ∙ sign-none c.args.z c.ranges.z c.if-z-eq0.true, omega (arith, c.zeros.ensures.0))

pub returns : goal.returns
returns c =
    let z = c.args.z in
    let e = c.new.ensures in
    let s = rw (to_z-of_z c.ranges.z) at c.from.ensures in
    (rw (e.0, e.1, s) (sign-some z c.if-z-eq0.false), omega (arith, e.0))
