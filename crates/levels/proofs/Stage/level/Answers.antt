-- `levels::Stage::level` meets its contract. Assumes nothing.
use Rattle.levels.specs.Bands.{level_of}
use Rattle.levels.proofs.TableRows.{table-placed}
use Rattle.levels.proofs.Stage.level.Goals as goal

pub returns : goal.returns
returns c =
    let s = c.args in
    let b = s.b in
    let z = b.z in
    let f = c.frame-f.ensures in
    rw (c.solid.ensures, c.triple.ensures, c.triple-2.ensures, c.triple-3.ensures, c.table-t.ensures, f.0, f.1, f.2, f.3) (table-placed z.guarded z.w z.n z.slots b.at b.fits.0 b.fits.1 (level_of s.self))
