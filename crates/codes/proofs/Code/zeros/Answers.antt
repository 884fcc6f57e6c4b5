-- `zeros` meets its contract. Assumes nothing.
use Rattle.std.proofs.Common.{refl}
use Rattle.codes.proofs.Pushed.{number-zeros}
use Rattle.codes.proofs.Code.zeros.Goals as goal

pub returns : goal.returns
returns c = (refl, number-zeros c.args.n)
