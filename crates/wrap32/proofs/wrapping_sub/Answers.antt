-- `wrap32::wrapping_sub` meets its contract: the library's difference is the definition's. Assumes nothing.
use Rattle.wrap32.proofs.Laws.{wrapping_sub-is}
use Rattle.wrap32.proofs.wrapping_sub.Goals as goal

pub returns : goal.returns
returns c = wrapping_sub-is c.args.a c.args.b c.ranges.a c.ranges.b
