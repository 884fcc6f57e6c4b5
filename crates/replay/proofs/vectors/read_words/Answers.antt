-- `vectors::read_words` meets its contract: the head is the bytes that were read, and zeros. Assumes nothing.
use Rattle.std.proofs.Common.{ℕ, ◌*◌, arith, ◌∙◌, length-take}
use Rattle.replay.proofs.Heads.{words_before}
use Rattle.replay.proofs.vectors.read_words.Goals as goal

pub returns : goal.returns
returns g c = (c.read.new.b, c.read.ensures c.if-not-read.false, omega (arith, c.read.auto.b, length-take {A = ℕ}), c.words_of.ensures ∙ words_before c.read.new.b (4 * c.args.n) 44)
