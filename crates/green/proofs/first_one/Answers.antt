-- `green::first_one` meets its contract. Assumes nothing.
use Rattle.std.proofs.Common.{arith}
use Rattle.std.proofs.lemmas.Grind.{common_steps}
use Rattle.std.proofs.lemmas.Int.{to_z-of_z}
use Rattle.wrap32.proofs.Laws.{shr-fits}
use Rattle.green.specs.Green.{first_of}
use Rattle.green.proofs.first_one.Goals as goal

pub returns : goal.returns
unfolding first_of
returns c = grind (arith, common_steps, to_z-of_z, shr-fits)
