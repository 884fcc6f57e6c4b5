-- `returning::band_back` meets its contract: y rows are laid at their places, and checked. Assumes nothing.
use Rattle.std.proofs.Common.{◌≡◌}
use Rattle.refusals.specs.Number.{code_of}
use Rattle.returning.specs.Return.{band_laid, band_refused}
use Rattle.returning.proofs.band_back.Given as goal

abbrev pub invariant-loop-y : goal.invariant-loop-y
invariant-loop-y l =
    (code_of l.checked ≡ band_refused l.r.c l.r.from l.r.t l.y l.e l.initial.work)
    × (l.work ≡ band_laid l.b l.r.c l.r.from l.r.t l.y l.e l.initial.work)
