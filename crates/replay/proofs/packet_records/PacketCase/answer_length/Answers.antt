-- The answer's length: four numbers below 256 make a product below 2 ^ 32, in words of four bytes. Assumes nothing.
use Rattle.std.proofs.Common.{ℕ, ◌*◌, ◌≤◌, ◌<◌, ◌^◌, arith, mul-le-mul_right}
use Rattle.replay.proofs.packet_records.PacketCase.answer_length.Goals as goal

-- the numbers of all records
product : (n k m c : ℕ) → n < 256 → k < 256 → m < 256 → c < 256 → n * (k * m * c) < 2 ^ 32
product n k m c hn hk hm hc =
    let two : k * m ≤ 255 * m = mul-le-mul_right m (omega arith) in
    let three : k * m * c ≤ 255 * 255 * c = mul-le-mul_right c (omega arith) in
    let four : n * (k * m * c) ≤ 255 * (k * m * c) = mul-le-mul_right (k * m * c) (omega arith) in
    omega arith

pub overflow_mul-result-2 : goal.overflow_mul-result-2
overflow_mul-result-2 c =
    let s = c.args.self.now in
    omega (arith, product s.records s.kind s.m s.columns (omega arith) (omega arith) (omega arith) (omega arith))

pub returns : goal.returns
returns c =
    let s = c.args.self.now in
    omega (arith, product s.records s.kind s.m s.columns (omega arith) (omega arith) (omega arith) (omega arith))
