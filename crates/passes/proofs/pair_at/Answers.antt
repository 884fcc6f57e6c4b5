-- `passes::pair_at` meets its contract. Assumes nothing.
use Rattle.std.proofs.Common.{sym}
use Rattle.passes.proofs.PlaceLaws.{pair_is}
use Rattle.passes.proofs.pair_at.Goals as goal

pub returns : goal.returns
returns c = let s = c.args in rw c.wrapped.ensures (sym (pair_is s.out s.pairs s.c s.y))
