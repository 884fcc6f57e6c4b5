-- `run_tail` meets its contract. Assumes nothing.
use Rattle.std.proofs.Common.{rules, sym, ◌∙◌}
use Rattle.encoding.proofs.Turns.{tail-whole, tail-part}
use Rattle.encoding.proofs.run_tail.Goals as goal

pub returns-then-k-g : goal.returns-then-k-g
returns-then-k-g c =
    let s = c.args in
    c.run_code-c.ensures.0 ∙ sym (tail-whole s.g s.k s.next (search rules))

pub returns-else-k-g : goal.returns-else-k-g
returns-else-k-g c =
    let s = c.args in
    c.then.ensures.1 ∙ rw (c.run_code-c.ensures.0, c.unary.ensures.1) (sym (tail-part s.g s.k s.next c.if-k-g.false))
