-- `zeros_ahead` meets its contract. The loop's invariant: every bit that was passed is 0, and the word holds the bits after them. Assumes nothing.
use Rattle.std.proofs.Common.{◌≡◌, ◌+◌, ◌*◌, ◌/◌, ◌^◌, ◌<◌}
use Rattle.format.specs.Bits.{bits_at}
use Rattle.bits.proofs.zeros_ahead.Given as goal

abbrev pub invariant-loop-k : goal.invariant-loop-k
invariant-loop-k l = (bits_at l.packet l.place (57 * l.k) ≡ 0) × (l.word / 2 ^ 7 ≡ bits_at l.packet (l.place + 57 * l.k) 57) × (l.word < 2 ^ 64)
