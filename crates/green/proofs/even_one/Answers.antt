-- `green::even_one` meets its contract. Assumes nothing.
use Rattle.std.proofs.Common.{arith}
use Rattle.std.proofs.lemmas.Grind.{common_steps}
use Rattle.std.proofs.lemmas.Int.{to_z-of_z}
use Rattle.green.specs.Green.{even_of}
use Rattle.green.proofs.even_one.Goals as goal

pub returns : goal.returns
unfolding even_of
returns c = grind (arith, common_steps, to_z-of_z)
