-- `all` meets its contract. Assumes nothing.
use Rattle.std.proofs.Common.{◌∙◌, arith}
use Rattle.std.proofs.lemmas.Iterator.{YieldsList-from_slice}
use Rattle.std.proofs.lemmas.Iterator.Consumers.{sum_from_yields_List, fits_from_yields_list}
use Rattle.assembly.proofs.Streams.{units-all, units-most}
use Rattle.assembly.proofs.front.Units.all.Goals as goal

pub sum-requires-clause-fits : goal.sum-requires-clause-fits
sum-requires-clause-fits c =
    let s = c.args.self.now in
    fits_from_yields_list c.iter.result _ (YieldsList-from_slice _ c.iter.ensures.rest) (omega (arith, units-most s.each s.long s.small))

pub returns : goal.returns
returns c =
    let s = c.args.self.now in
    let e = sum_from_yields_List c.iter.result _ c.sum.ensures.ran (YieldsList-from_slice _ c.iter.ensures.rest) in
    (e ∙ units-all s.each s.long, omega (arith, e, units-most s.each s.long s.small))
