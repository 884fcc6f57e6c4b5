-- `update_code` meets its contract. Assumes nothing.
use Rattle.std.proofs.Common.{rules, sym, arith}
use Rattle.encoding.proofs.Runs.{update-kept, update-grown, update-gone, update-shrunk}
use Rattle.encoding.proofs.update_code.Goals as goal

pub returns-then-a-b : goal.returns-then-a-b
returns-then-a-b c = (rw (update-kept c.args.a c.args.b (search rules)) c.zeros.ensures.1, omega (arith, c.zeros.ensures.0))

pub returns-then-a-b-2 : goal.returns-then-a-b-2
returns-then-a-b-2 c =
    let e = c.new.ensures in
    (rw (c.then.ensures.1, e.0, e.1, c.unary.ensures.1) (sym (update-grown c.args.a c.args.b (search rules))), omega (arith, c.then.ensures.0, e.0, c.unary.ensures.0))

pub returns-then-b-eq0 : goal.returns-then-b-eq0
returns-then-b-eq0 c =
    let e = c.new-then-b-eq0.ensures in
    let z = c.zeros-then-b-eq0.ensures in
    let t = c.then-then-b-eq0.ensures in
    (rw (t.1, e.0, e.1, z.1) (sym (update-gone c.args.a c.args.b (omega arith) (search rules))), omega (arith, t.0, e.0, z.0))

pub returns : goal.returns
returns c =
    let e = c.new-2.ensures in
    let u = c.unary-2.ensures in
    let t = c.then-2.ensures in
    (rw (t.1, e.0, e.1, u.1) (sym (update-shrunk c.args.a c.args.b (omega arith) (λ z. omega arith))), omega (arith, t.0, e.0, u.0))
