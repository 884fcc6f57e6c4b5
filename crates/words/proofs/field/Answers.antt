-- `words::field` meets its contract: the first n bits of the word at the place. Assumes nothing.
use mathlib.Core.Path.{◌∙◌}
use Rattle.format.proofs.BitLaws.{prefix, bits-lt}
use Rattle.words.proofs.field.Goals as goal

pub returns : goal.returns
returns c =
    let a = c.args in
    let s = a.s.now in
    let same = c.top.ensures ∙ prefix s a.at c.window.result a.n c.window.ensures c.requires.1 in
    (same, rw same (bits-lt s a.at a.n))
