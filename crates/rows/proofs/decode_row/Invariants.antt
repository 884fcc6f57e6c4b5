-- `decode_row` meets its contract. Assumes nothing.
use Rattle.std.proofs.Common.{◌-◌}
use Rattle.rows.specs.Course.{state_of}
use Rattle.rows.proofs.Row.{Decoding}
use Rattle.rows.proofs.decode_row.Given as goal

abbrev pub invariant-loop-out : goal.invariant-loop-out
invariant-loop-out l = Decoding l.packet l.selector.number l.n (state_of l.initial.width l.initial.r) l.initial.dst l.dst l.r l.width l.out

abbrev pub decreases-loop-out : goal.decreases-loop-out
decreases-loop-out l = l.n - l.out
