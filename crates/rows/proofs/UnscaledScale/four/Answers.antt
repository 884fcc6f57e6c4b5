-- `UnscaledScale::four` meets its contract. Assumes nothing.
use Rattle.rows.proofs.StretchLaws.{stretch-none}
use Rattle.rows.proofs.UnscaledScale.four.Goals as goal

pub returns : goal.returns
returns c = stretch-none c.args.q
