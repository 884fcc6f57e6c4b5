-- `green::odd_one` meets its contract. Assumes nothing.
use Rattle.std.proofs.Common.{arith}
use Rattle.std.proofs.lemmas.Grind.{common_steps}
use Rattle.std.proofs.lemmas.Int.{to_z-of_z}
use Rattle.wrap32.proofs.Laws.{shr-fits}
use Rattle.green.proofs.GreenLaws.{odd_is}
use Rattle.green.proofs.odd_one.Goals as goal

pub returns : goal.returns
returns c = grind (arith, common_steps, to_z-of_z, shr-fits, odd_is)
