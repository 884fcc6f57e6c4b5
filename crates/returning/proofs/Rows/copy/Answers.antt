-- `returning::Rows::copy` meets its contract. Assumes nothing.
use Rattle.std.proofs.Common.{◌+◌, ◌*◌}
use Rattle.returning.proofs.MoveLaws.{copied-is}
use Rattle.returning.proofs.Rows.copy.Goals as goal

pub returns : goal.returns
returns c =
    let r = c.args.self in
    copied-is c.args.work.now _ (r.from + c.args.y * r.t) c.args.to r.c c.requires.0 c.requires.1 c.copy_within.ensures.after
