-- `fill_record` meets its contract. Assumes nothing.
use Rattle.std.proofs.Common.{lt-ltb, le-ltb, ap, ◌∙◌, arith}
use Rattle.format.specs.Packets.{blocks}
use Rattle.format.specs.Coefficients.{zeros}
use Rattle.format.proofs.BitLaws.{bits-lt}
use Rattle.records.specs.Record.{values_from}
use Rattle.records.proofs.fill_record.Goals.{After-band-2-1, Else-i-blocks}
use Rattle.records.proofs.fill_record.Goals as goal

pub decode_record-requires : goal.decode_record-requires
decode_record-requires c =
    record {
      in_bounds = (omega (arith, c.if-i-blocks.true, c.blocks-2.ensures.0, bits-lt c.args.packet.now 56 16), c.requires.in_bounds);
      size = c.requires.size;
    }

pub returns-then-i-blocks : goal.returns-then-i-blocks
unfolding values_from
returns-then-i-blocks c =
    let e = c.decode_record.ensures in
    let has = lt-ltb c.args.i (blocks c.args.packet.now) (omega (arith, c.if-i-blocks.true, c.blocks-2.ensures.0)) in
    record {
      value = simp has e.value;
      band_after = simp has e.band_after;
    }

pub returns : goal.returns
unfolding values_from
returns c =
    let b = (goal.at.returns c).After-band-2-1 in
    let t = (goal.at.After-band-2-1 b).Else-i-blocks in
    let s = t in
    let missing = le-ltb s.args.i (blocks s.args.packet.now) (omega (arith, t.if-i-blocks.false, t.blocks-2.ensures.0)) in
    record {
      value = simp missing c.none.ensures;
      band_after = simp missing (b.fill.ensures.after (λ y e. e) ∙ ap zeros s.requires.size);
    }
