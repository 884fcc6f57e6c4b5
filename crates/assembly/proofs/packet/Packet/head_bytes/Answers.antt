-- `head_bytes` meets its contract. Assumes nothing.
use Rattle.std.proofs.Common.{arith}
use Rattle.assembly.specs.Packet.{head_units_of}
use Rattle.assembly.proofs.Shapes.{head_few}
use Rattle.assembly.proofs.packet.Packet.head_bytes.Goals as goal

pub returns : goal.returns
unfolding head_units_of
returns c = (omega arith, omega (arith, head_few c.args.self.shape c.args.self.sound))
