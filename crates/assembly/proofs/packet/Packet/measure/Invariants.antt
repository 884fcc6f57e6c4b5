-- `measure` meets its contract. Assumes nothing.
use Rattle.std.proofs.Common.{◌≡◌, ◌*◌, ◌^◌, ◌≤◌, ltb}
use Rattle.format.specs.Packets.{sum}
use Rattle.format.specs.Refusals.{on, each}
use Rattle.refusals.specs.Number.{code_of}
use Rattle.assembly.specs.Packet.{bytes_of}
use Rattle.assembly.proofs.packet.Packet.measure.Given as goal

abbrev pub invariant-loop-k : goal.invariant-loop-k
invariant-loop-k l =
    (l.bytes ≡ sum (bytes_of l.self.shape l.self.numbers.now) l.k) × (l.bytes ≤ l.k * 2 ^ 32) × (code_of l.passes ≡ each (λ k. on (ltb 65535 (bytes_of l.self.shape l.self.numbers.now k)) 26) l.k)
