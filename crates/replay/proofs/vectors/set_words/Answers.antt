-- `vectors::set_words` meets its contract: the first i numbers are words, the rest is as it was. Assumes nothing.
use Rattle.std.proofs.Common.{rules, arith, ◌∙◌, w32, SFits, to_z-of_z}
use Rattle.lists.proofs.Tab.{fill_start, fill_step, fill_done}
use Rattle.replay.specs.Numbers.{word_at}
use Rattle.replay.proofs.vectors.set_words.Goals as goal

pub loop-i-init : goal.loop-i-init
loop-i-init c = fill_start _ _

pub loop-i-preserved : goal.loop-i-preserved
loop-i-preserved c =
    let at = c.loop-i in
    let a = c.args in
    let fits : SFits w32 c.number.result = search rules in
    fill_step a.numbers.now at.numbers at.i (word_at a.b.now) _ at.invariant (omega arith) (to_z-of_z fits ∙ c.number.ensures)

pub returns : goal.returns
returns c =
    let a = c.args in
    fill_done a.numbers.now _ c.loop-i.i _ (word_at a.b.now) c.loop-i.invariant (omega arith) (omega arith)
