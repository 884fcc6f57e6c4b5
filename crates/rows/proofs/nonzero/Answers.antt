-- `nonzero` meets its contract. Assumes nothing.
use Rattle.std.proofs.Common.{arith}
use Rattle.std.proofs.lemmas.Grind.{common_steps}
use Rattle.rows.specs.Word.{nonzero_of}
use Rattle.rows.proofs.nonzero.Goals as goal

pub returns : goal.returns
unfolding nonzero_of
returns c = grind (arith, common_steps)
