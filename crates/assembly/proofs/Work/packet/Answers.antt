-- `packet` meets its contract. Assumes nothing.
use Rattle.assembly.proofs.Places.{in-sound, in-fits, in-part, in-length, in_small}
use Rattle.assembly.proofs.Work.packet.Goals as goal

pub slice_bounds-result-end : goal.slice_bounds-result-end
slice_bounds-result-end c =
    let s = c.args.self in
    let e = c.locate-l.ensures in
    in-fits s.w s.h s.numbers.now s.tile c.args.p c.requires c.locate-l.result e.0 e.1 e.2

pub invariant_of-result : goal.invariant_of-result
invariant_of-result c =
    let s = c.args.self in
    let e = c.locate-l.ensures in record {
      sound = in-sound s.w s.h s.numbers.now s.tile c.args.p c.requires c.locate-l.result e.0 e.1 e.2;
      long = in-length s.w s.h s.numbers.now s.tile c.args.p c.requires c.locate-l.result e.0 e.1 e.2;
      small = in_small s.w s.h s.numbers.now s.tile c.args.p c.requires c.locate-l.result e.0 e.1 e.2;
    }

pub returns : goal.returns
returns c =
    let s = c.args.self in
    let e = c.locate-l.ensures in
    (e.0, in-part s.w s.h s.numbers.now s.tile c.args.p c.requires c.locate-l.result e.0 e.1 e.2)
