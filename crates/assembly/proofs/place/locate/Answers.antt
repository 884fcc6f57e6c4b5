-- `assembly::place::locate` meets its contract. Assumes nothing.
use Rattle.std.proofs.Common.{arith}
use Rattle.assembly.proofs.Places.{numbers_few}
use Rattle.assembly.proofs.place.locate.Goals as goal

pub overflow_add-result : goal.overflow_add-result
overflow_add-result c = omega (arith, c.packet_at-start.ensures.1, numbers_few _ _ _ _ c.shape-z.ensures c.args.size.narrow (omega (arith, c.stripes-records.ensures.1)))
