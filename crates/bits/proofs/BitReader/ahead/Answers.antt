-- `BitReader::ahead` meets its contract. Assumes nothing.
use Rattle.std.proofs.Common.{◌∙◌}
use Rattle.format.proofs.BitLaws.{prefix}
use Rattle.bits.proofs.BitReader.ahead.Goals as goal

pub returns : goal.returns
returns c =
    let a = c.args in
    c.top.ensures ∙ prefix a.packet.now a.self.place a.self.cache a.n c.requires.ready.bits c.requires.few_bits
