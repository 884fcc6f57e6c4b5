-- `packets::directory::Block::check_entries` meets its contract. What was passed lies within the stream; the next packet starts where the last one ends. Assumes nothing.
use Rattle.std.proofs.Common.{◌≡◌, refl, sym, ◌∙◌, arith}
use Rattle.format.specs.Refusals.{entry_refusal}
use Rattle.format.proofs.TurnLaws.{each_none, each_on, refused}
use Rattle.format.proofs.DirectoryLaws.{seven, within, start_none, start-on, length-read}
use Rattle.packets.proofs.directory.Block.check_entries.Goals as goal

pub loop-index-init : goal.loop-index-init
loop-index-init c =
    let s = c.args.self.now.stream.now in
    let g = c.args.self.now.group in
    (each_none (entry_refusal s g), c.start-start.ensures.0 ∙ sym (start_none s g), omega arith)

pub returns-then-len-start : goal.returns-then-len-start
returns-then-len-start c =
    let s = c.args.self.now.stream.now in
    let g = c.args.self.now.group in
    let l = c.loop-index in
    let long = length-read s g _ l.index _ c.args.self.now.place c.length-n.ensures.0 in
    refused (entry_refusal s g) l.index c.args.count 6 l.invariant.0
    (seven s g l.index (rw (← c.len.ensures, ← l.invariant.1, ← long) c.if-len-start.true))
    (omega arith)

pub loop-index-preserved : goal.loop-index-preserved
loop-index-preserved c =
    let s = c.args.self.now.stream.now in
    let g = c.args.self.now.group in
    let l = c.loop-index in
    let long = length-read s g _ l.index _ c.args.self.now.place c.length-n.ensures.0 in (
      each_on (entry_refusal s g) l.index l.invariant.0 (within s g l.index (rw (← c.len.ensures, ← l.invariant.1, ← long) c.if-len-start.false)),
      rw (start-on s g l.index, ← l.invariant.1, ← long) refl,
      omega arith,
    )

pub returns : goal.returns
returns c = let same : c.loop-index.index ≡ c.args.count = omega arith in rw (sym same) (sym c.loop-index.invariant.0)
