-- `put_packets` meets its contract. Assumes nothing.
use Rattle.std.proofs.Common.{◌≡◌, ◌*◌, length, take}
use Rattle.lists.specs.Lists.{rows}
use Rattle.format.specs.Packets.{sum}
use Rattle.format.specs.Writing.{packed}
use Rattle.assembly.specs.Tile.{units_in, packet_bits_in}
use Rattle.assembly.proofs.Work.put_packets.Given as goal

abbrev pub invariant-loop-p : goal.invariant-loop-p
invariant-loop-p l =
    (length l.out ≡ length l.initial.out) × (l.at ≡ 16 * sum (units_in l.self.w l.self.h l.self.numbers.now) l.p) × (take l.at l.out ≡ rows l.p (λ p. packed (packet_bits_in l.self.w l.self.h l.self.numbers.now p)))
