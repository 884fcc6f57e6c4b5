-- `group` meets its contract. Assumes nothing.
use Rattle.std.proofs.Common.{lt_of_lt_of_le, pow_mono}
use Rattle.format.specs.Coefficients.{group_of}
use Rattle.rows.proofs.group.Goals as goal

pub signs-z-requires : goal.signs-z-requires
signs-z-requires c =
    let q = c.read4-q.ensures.ready_below_four in
    let short = pow_mono {i = c.args.width} {j = 19} c.requires.width_bound in record {
      ready = c.width_next-n.ensures.still_ready;
      short = (lt_of_lt_of_le q.a short, lt_of_lt_of_le q.b short, lt_of_lt_of_le q.c short, lt_of_lt_of_le q.d short);
    }

pub returns : goal.returns
unfolding group_of
returns c =
    let z = c.signs-z in
    record {
      value = simp (← c.read4-q.ensures.value, ← c.width_next-n.ensures.value, ← z.ensures.value);
      still_ready = z.ensures.still_ready;
    }
