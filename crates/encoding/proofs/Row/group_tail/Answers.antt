-- `group_tail` meets its contract. Assumes nothing.
use Rattle.std.proofs.Common.{◌+◌, arith}
use Rattle.encoding.specs.Numbers.{line}
use Rattle.encoding.proofs.Widths.{width-most}
use Rattle.encoding.proofs.Turns.{next_last, next_more}
use Rattle.encoding.proofs.Row.group_tail.Goals as goal

pub update_code-requires : goal.update_code-requires
update_code-requires c =
    let s = c.args.self in
    let f = line s.numbers.now in
    omega (arith, width-most f s.small c.args.j, width-most f s.small (c.args.j + 1))

pub returns-then-g-le1 : goal.returns-then-g-le1
returns-then-g-le1 c =
    let s = c.args in
    rw (next_last (line s.self.numbers.now) s.j s.g c.if-g-le1.true) c.signs-s.ensures.0

pub returns-else-g-le1 : goal.returns-else-g-le1
returns-else-g-le1 c =
    let s = c.args in
    let p = c.requires in
    let u = rw (p.1, p.2) at c.update_code.ensures.0 in
    rw (next_more (line s.self.numbers.now) s.j s.g c.if-g-le1.false, c.then.ensures.1, u, c.signs-s.ensures.0)
