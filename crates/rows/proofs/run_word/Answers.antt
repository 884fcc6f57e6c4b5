-- `run_word` meets its contract. Assumes nothing.
use Rattle.std.proofs.Common.{arith, refl, ◌+◌, ◌-◌, ◌*◌, ◌%◌, ◌^◌, ◌≤◌}
use lib.Count.{count_leading_zeros, leading_le}
use Rattle.rows.proofs.RunWord.{length-le, run-all, run_end, run_more}
use Rattle.rows.proofs.run_word.Goals.{After-bit_length-most, Else-left-v}
use Rattle.rows.proofs.run_word.Goals as goal

-- the most zeros are few
short : (c : After-bit_length-most) → c.bit_length-most.result ≤ 31
short c = omega (arith, length-le (c.args.left - 1) (omega arith), c.bit_length-most.ensures.0)

pub overflow_cast-z : goal.overflow_cast-z
overflow_cast-z c = omega (arith, leading_le 64 c.args.word)

pub returns-then-most-z : goal.returns-then-most-z
returns-then-most-z c =
    let k = c.bit_length-most in
    let a = c.args in
    record {
      most = omega arith;
      few = omega (arith, short (goal.at.returns-then-most-z c).After-bit_length-most);
      short = omega arith;
      reads = λ s r holds few enough go.
          (omega arith, rw k.ensures.0 (run-all s r a.word a.left (omega arith) holds (omega arith) (omega arith) go (omega (arith, k.ensures.0)) (omega (arith, k.ensures.0, enough))));
    }

pub overflow_shl-v : goal.overflow_shl-v
overflow_shl-v c = omega (arith, short (goal.at.overflow_shl-v c).After-bit_length-most)

pub overflow_sub-v : goal.overflow_sub-v
overflow_sub-v c = omega (arith, short (goal.at.overflow_sub-v c).After-bit_length-most)

pub overflow_mul-result : goal.overflow_mul-result
overflow_mul-result c = omega (arith, short (goal.at.overflow_mul-result c).After-bit_length-most)

pub overflow_add-result : goal.overflow_add-result
overflow_add-result c = omega (arith, short (goal.at.overflow_add-result c).After-bit_length-most)

pub returns-then-left-v : goal.returns-then-left-v
returns-then-left-v c =
    let k = c.bit_length-most in
    let a = c.args in
    let z = count_leading_zeros 64 a.word in
    record {
      most = omega arith;
      few = omega (arith, short (goal.at.returns-then-left-v c).After-bit_length-most);
      short = omega arith;
      reads = λ s r holds few enough go.
          (omega arith, run_end s r a.word a.left (omega arith) holds (omega arith) (omega arith) go z refl (omega (arith, k.ensures.0)) few enough c.if-left-v.true);
    }

-- the zeros after the run
ones : (c : Else-left-v) → count_leading_zeros 64 (c.args.word * 2 ^ (2 * count_leading_zeros 64 c.args.word + 1) % 2 ^ 64) ≤ 64
ones c = leading_le 64 (c.args.word * 2 ^ (2 * count_leading_zeros 64 c.args.word + 1) % 2 ^ 64)

pub overflow_mul-u : goal.overflow_mul-u
overflow_mul-u c = omega (arith, short (goal.at.overflow_mul-u c).After-bit_length-most)

pub overflow_add-u : goal.overflow_add-u
overflow_add-u c = omega (arith, short (goal.at.overflow_add-u c).After-bit_length-most)

pub overflow_shl-u : goal.overflow_shl-u
overflow_shl-u c = omega (arith, short (goal.at.overflow_shl-u c).After-bit_length-most)

pub overflow_cast-u : goal.overflow_cast-u
overflow_cast-u c = omega (arith, ones c)

pub overflow_add-result-2 : goal.overflow_add-result-2
overflow_add-result-2 c = omega (arith, short (goal.at.overflow_add-result-2 c).After-bit_length-most, ones c)

pub overflow_mul-result-2 : goal.overflow_mul-result-2
overflow_mul-result-2 c = omega (arith, short (goal.at.overflow_mul-result-2 c).After-bit_length-most)

pub overflow_add-result-3 : goal.overflow_add-result-3
overflow_add-result-3 c = omega (arith, short (goal.at.overflow_add-result-3 c).After-bit_length-most, ones c)

pub overflow_add-result-4 : goal.overflow_add-result-4
overflow_add-result-4 c = omega (arith, short (goal.at.overflow_add-result-4 c).After-bit_length-most, ones c)

pub returns : goal.returns
returns c =
    let k = c.bit_length-most in
    let a = c.args in
    let z = count_leading_zeros 64 a.word in
    let u = count_leading_zeros 64 (a.word * 2 ^ (2 * z + 1) % 2 ^ 64) in
    record {
      most = omega (arith, c.if-left-v.false);
      few = omega (arith, short (goal.at.returns c).After-bit_length-most, ones c);
      short = omega (arith, ones c);
      reads = λ s r holds few enough go.
          run_more s r a.word a.left (omega arith) holds (omega arith) (omega arith) go z refl (omega (arith, k.ensures.0)) (omega (arith, few)) (omega (arith, enough)) (omega (arith, c.if-left-v.false)) u refl few enough;
    }
