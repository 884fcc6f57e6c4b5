-- `unary` meets its contract. Assumes nothing.
use Rattle.std.proofs.Common.{refl, arith}
use Rattle.codes.proofs.Pushed.{two-more, number-unary}
use Rattle.codes.proofs.Code.unary.Goals as goal

pub invariant_of-result : goal.invariant_of-result
invariant_of-result c = record { short = omega arith; fits = two-more c.args.k (omega arith) }

pub returns : goal.returns
returns c = (refl, number-unary c.args.k (omega arith))
