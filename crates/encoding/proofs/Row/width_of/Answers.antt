-- `width_of` meets its contract. Assumes nothing.
use Rattle.std.proofs.Common.{◌≡◌, refl}
use Rattle.format.specs.Writing.{group_width}
use Rattle.encoding.specs.Numbers.{line}
use Rattle.encoding.proofs.Widths.{width-most}
use Rattle.encoding.proofs.Row.width_of.Goals as goal

pub returns : goal.returns
unfolding group_width
returns c =
    let s = c.args.self in
    let f = line s.numbers.now in
    let e : c.bit_length.result ≡ group_width f c.args.j =
    rw (c.bit_length.ensures.0, c.max-2.ensures, c.max-first.ensures, c.max.ensures, c.size.ensures, c.size-2.ensures, c.size-3.ensures, c.size-4.ensures) refl in
    (e, rw e (width-most f s.small c.args.j))
