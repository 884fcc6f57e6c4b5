-- `BitReader::find` meets its contract. Assumes nothing.
use Rattle.std.proofs.Common.{rules, lt-ltb, le-ltb, le-leb}
use borrow.Author.Tests.{lt-leb}
use Rattle.format.specs.Reader.{find_of}
use Rattle.bits.proofs.BitReader.find.Goals as goal

pub returns-then-z-limit : goal.returns-then-z-limit
unfolding find_of
returns-then-z-limit c =
    let limit = c.min-limit.ensures in
    record {
      value = simp (← limit, ← c.zeros_ahead-z.ensures.0, lt-ltb _ _ c.if-z-limit.true, c.skip.ensures.value);
      ready_below = search rules;
    }

pub returns-then-k-left : goal.returns-then-k-left
unfolding find_of
returns-then-k-left c =
    let limit = c.min-limit.ensures in
    record {
      value = simp (← limit, ← c.zeros_ahead-z.ensures.0, le-ltb _ _ c.if-z-limit.false, le-leb _ _ c.if-k-left.true, c.skip-then-k-left.ensures.value);
      ready_below = search rules;
    }

pub returns : goal.returns
unfolding find_of
returns c =
    let limit = c.min-limit.ensures in
    record {
      value = simp (← limit, ← c.zeros_ahead-z.ensures.0, le-ltb _ _ c.if-z-limit.false, lt-leb _ _ c.if-k-left.false, c.spend.ensures.value);
      ready_below = search rules;
    }
