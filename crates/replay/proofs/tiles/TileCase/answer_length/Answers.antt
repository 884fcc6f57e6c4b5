-- The answer's length: two numbers below 256 make a product below 2 ^ 16. Assumes nothing.
use Rattle.std.proofs.Common.{◌*◌, ◌≤◌, arith, mul-le-mul_right}
use Rattle.replay.proofs.tiles.TileCase.answer_length.Goals as goal

pub returns : goal.returns
returns c =
    let two : c.small.result * c.small-2.result ≤ 255 * c.small-2.result = mul-le-mul_right c.small-2.result (omega (arith, c.small.ensures)) in
    omega (arith, c.small-2.ensures)
