-- `record` meets its contract. Assumes nothing.
use Rattle.std.proofs.Common.{◌≡◌, ◌+◌, ◌-◌, ◌*◌, take, drop, ap, ◌∙◌, arith}
use Rattle.encoding.specs.Record.{record_in}
use Rattle.assembly.proofs.Shapes.{record-bits}
use Rattle.assembly.proofs.packet.Packet.record.Goals as goal

pub returns : goal.returns
returns c =
    let z = c.args.self.shape in
    let n = z.rows * z.cols in
    let a = c.args.k * n in
    let e : a + n - a ≡ n = omega arith in
    ap (λ k. record_in z.cols z.rows (take k (drop a c.args.self.numbers.now))) e ∙ record-bits z c.args.self.numbers.now c.args.k
