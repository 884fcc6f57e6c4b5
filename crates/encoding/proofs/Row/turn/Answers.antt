-- `turn` meets its contract. Assumes nothing.
use Rattle.std.proofs.Common.{sym, ◌∙◌, arith}
use Rattle.encoding.specs.Numbers.{line}
use Rattle.encoding.proofs.Widths.{run-some, run_ends}
use Rattle.encoding.proofs.Turns.{turn-run, turn-group}
use Rattle.encoding.proofs.Row.turn.Goals as goal

pub run_tail-requires : goal.run_tail-requires
run_tail-requires c =
    let s = c.args in
    let f = line s.self.numbers.now in
    let k = c.zero_groups-k.ensures in
    let w = c.width_of-next.ensures in
    (rw k.0 (run-some f s.j s.g (omega arith) (omega arith)), k.1, omega arith, w.1, λ l. rw (w.0, k.0) (run_ends f s.j s.g (rw k.0 at l)))

pub returns-then-w-eq0-clause-groups : goal.returns-then-w-eq0-clause-groups
returns-then-w-eq0-clause-groups c =
    let s = c.args in
    let r = turn-run (line s.self.numbers.now) s.j s.g (omega arith) in
    (c.zero_groups-k.ensures.0 ∙ sym r.0, c.width_of-next.ensures.0)

pub returns-then-w-eq0-clause-bits : goal.returns-then-w-eq0-clause-bits
returns-then-w-eq0-clause-bits c =
    let s = c.args in
    let r = turn-run (line s.self.numbers.now) s.j s.g (omega arith) in
    c.run_tail.ensures ∙ rw (c.width_of-next.ensures.0, c.zero_groups-k.ensures.0) (sym r.1)

pub returns-then-w-eq0-clause-bounds : goal.returns-then-w-eq0-clause-bounds
returns-then-w-eq0-clause-bounds c =
    let s = c.args in
    let k = c.zero_groups-k.ensures in
    (rw k.0 (run-some (line s.self.numbers.now) s.j s.g (omega arith) (omega arith)), k.1)

pub returns-clause-groups : goal.returns-clause-groups
returns-clause-groups c =
    let s = c.args in
    let r = turn-group (line s.self.numbers.now) s.j s.g (λ q. omega (arith, q, c.if-w-eq0.false)) in
    (sym r.0, c.width_of-next-2.ensures.0)

pub returns-clause-bits : goal.returns-clause-bits
returns-clause-bits c =
    let s = c.args in
    let r = turn-group (line s.self.numbers.now) s.j s.g (λ q. omega (arith, q, c.if-w-eq0.false)) in
    c.group_tail.ensures ∙ sym r.1
