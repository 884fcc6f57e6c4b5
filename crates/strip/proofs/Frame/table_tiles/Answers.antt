-- `strip::Frame::table_tiles` meets its contract. Assumes nothing.
use Rattle.std.proofs.Common.{rules, ap, sym, ◌∙◌, arith}
use Rattle.strip.specs.Answers.{listed_of}
use Rattle.strip.proofs.Table.{gathered_on, gathered_fail}
use Rattle.strip.proofs.Frame.table_tiles.Goals as goal

pub returns-in_err-tile : goal.returns-in_err-tile
returns-in_err-tile c =
    let f = c.args.self.now in
    c.from_residual.ensures ∙ ap listed_of (sym (gathered_fail f.strip.now f.width f.height c.loop-i.i c.le32-count.result (search rules) (omega arith) c.le32-count.ensures.0))

pub loop-i-preserved : goal.loop-i-preserved
loop-i-preserved c =
    let f = c.args.self.now in
    rw c.push.ensures (gathered_on f.strip.now f.width f.height c.loop-i.tiles c.loop-i.i c.in_ok-tile.tile c.loop-i.invariant (sym c.in_ok-tile.ensures))
