-- `wrap32::wrapping_add` meets its contract: the library's sum is the definition's. Assumes nothing.
use Rattle.wrap32.proofs.Laws.{wrapping_add-is}
use Rattle.wrap32.proofs.wrapping_add.Goals as goal

pub returns : goal.returns
returns c = wrapping_add-is c.args.a c.args.b c.ranges.a c.ranges.b
