-- `BitReader::unary` meets its contract. Assumes nothing.
use Rattle.std.proofs.Common.{rules, lt-ltb, le-ltb}
use Rattle.format.specs.Reader.{unary_of}
use Rattle.bits.proofs.BitReader.unary.Goals as goal

pub returns-then-z-left : goal.returns-then-z-left
unfolding unary_of
returns-then-z-left c = record {
  value = simp (← c.zeros_ahead-z.ensures.0, lt-ltb _ _ c.if-z-left.true, c.skip.ensures.value);
  ready_below = search rules;
}

pub returns : goal.returns
unfolding unary_of
returns c = record {
  value = simp (← c.zeros_ahead-z.ensures.0, le-ltb _ _ c.if-z-left.false, c.spend.ensures.value);
  ready_below = search rules;
}
