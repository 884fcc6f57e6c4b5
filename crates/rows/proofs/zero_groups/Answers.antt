-- `zero_groups` meets its contract. Assumes nothing.
use Rattle.std.proofs.Common.{arith}
use Rattle.format.specs.Coefficients.{zeros_of}
use Rattle.rows.proofs.zero_groups.Goals.{After-width_after-n}
use Rattle.rows.proofs.zero_groups.Goals as goal

pub returns : goal.returns
unfolding zeros_of
returns c =
    let n = (goal.at.returns c).After-width_after-n in
    let run = n in
    record {
      value = simp (← run.zero_run-run.ensures.value, ← n.width_after-n.ensures.value);
      still_ready = n.width_after-n.ensures.ready;
      some_groups = (run.zero_run-run.ensures.some run.requires.some.0, omega (arith, run.zero_run-run.ensures.ready_below.bound));
    }
