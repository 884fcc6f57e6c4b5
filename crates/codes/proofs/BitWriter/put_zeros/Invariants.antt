-- `put_zeros` meets its contract. Assumes nothing.
use Rattle.std.proofs.Common.{◌*◌}
use Rattle.format.specs.Writing.{zero_bits}
use Rattle.codes.specs.Wrote.{Appends}
use Rattle.codes.proofs.BitWriter.put_zeros.Given as goal

abbrev pub invariant-loop : goal.invariant-loop
invariant-loop l = Appends l.initial.self l.self (zero_bits (56 * l.counter))
