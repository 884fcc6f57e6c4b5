-- `green::quarter` meets its contract. Assumes nothing.
use Rattle.std.proofs.Common.{arith}
use Rattle.std.proofs.lemmas.Grind.{common_steps}
use Rattle.std.proofs.lemmas.Int.{to_z-of_z}
use Rattle.wrap32.proofs.Laws.{shr-fits}
use Rattle.green.specs.Green.{quarter_of}
use Rattle.green.proofs.quarter.Goals as goal

pub returns : goal.returns
unfolding quarter_of
returns c = grind (arith, common_steps, to_z-of_z, shr-fits)
