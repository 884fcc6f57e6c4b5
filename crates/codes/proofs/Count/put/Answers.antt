-- `put` of a count meets its contract. Assumes nothing.
use Rattle.std.proofs.Common.{arith}
use Rattle.codes.proofs.Pushed.{length-number}
use Rattle.codes.proofs.Count.put.Goals as goal

pub returns : goal.returns
returns c = record { on = omega (arith, length-number c.args.c.n c.args.c.v) }
