-- `changed` meets its contract. Assumes nothing.
use Rattle.std.proofs.Common.{lt-ltb, le-ltb, arith, ◌+◌, ◌*◌, ◌%◌, ◌^◌, ◌≤◌}
use lib.Count.{count_leading_zeros, leading_le}
use Rattle.bits.specs.View.{change_of}
use Rattle.bits.proofs.changed.Goals.{Else-word-lt13835058055282163712, Start}
use Rattle.bits.proofs.changed.Goals as goal

-- the zeros after the opening bits
zeros : (c : Start) → count_leading_zeros 64 (c.args.word * 2 ^ 2 % 2 ^ 64) ≤ 64
zeros c = leading_le 64 (c.args.word * 2 ^ 2 % 2 ^ 64)

pub returns-then-word-lt9223372036854775808 : goal.returns-then-word-lt9223372036854775808
unfolding change_of
returns-then-word-lt9223372036854775808 c = (simp (lt-ltb c.args.word (2 ^ 63) c.if-word-lt9223372036854775808.true), omega arith)

pub returns-then-word-lt13835058055282163712 : goal.returns-then-word-lt13835058055282163712
unfolding change_of
returns-then-word-lt13835058055282163712 c =
    let word = c.args.word in
    (simp (le-ltb word (2 ^ 63) (omega (arith, c.if-word-lt9223372036854775808.false)), lt-ltb word (2 ^ 63 + 2 ^ 62) (omega (arith, c.if-word-lt13835058055282163712.true))), omega (arith, zeros (goal.at.returns-then-word-lt13835058055282163712 c).Start))

pub returns : goal.returns
unfolding change_of
returns c =
    let e = (goal.at.returns c).Else-word-lt13835058055282163712 in
    let word = e.args.word in (
      simp (
        le-ltb word (2 ^ 63) (omega (arith, e.if-word-lt9223372036854775808.false)),
        le-ltb word (2 ^ 63 + 2 ^ 62) (omega (arith, e.if-word-lt13835058055282163712.false)),
        c.saturating_sub.ensures,
        c.min.ensures,
        c.saturating_sub-2.ensures,
      ),
      omega (arith, c.min.ensures, zeros (goal.at.Else-word-lt13835058055282163712 e).Start),
    )

pub overflow_cast-z : goal.overflow_cast-z
overflow_cast-z c = omega (arith, zeros (goal.at.overflow_cast-z c).Start)

pub overflow_add-result : goal.overflow_add-result
overflow_add-result c = omega (arith, zeros (goal.at.overflow_add-result c).Start)

pub overflow_add-result-then-word-lt13835058055282163712 : goal.overflow_add-result-then-word-lt13835058055282163712
overflow_add-result-then-word-lt13835058055282163712 c = omega (arith, zeros (goal.at.overflow_add-result-then-word-lt13835058055282163712 c).Start)

pub overflow_add-result-then-word-lt13835058055282163712-2 : goal.overflow_add-result-then-word-lt13835058055282163712-2
overflow_add-result-then-word-lt13835058055282163712-2 c = omega (arith, zeros (goal.at.overflow_add-result-then-word-lt13835058055282163712-2 c).Start)

pub overflow_add-z : goal.overflow_add-z
overflow_add-z c = omega (arith, zeros (goal.at.overflow_add-z c).Start)

pub overflow_add-z-2 : goal.overflow_add-z-2
overflow_add-z-2 c = omega (arith, zeros (goal.at.overflow_add-z-2 c).Start)

pub overflow_add-result-2 : goal.overflow_add-result-2
overflow_add-result-2 c = omega (arith, c.min.ensures, zeros (goal.at.overflow_add-result-2 c).Start)
