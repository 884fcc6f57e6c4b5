-- `packets::directory::parse_directory` meets its contract. Assumes nothing.
use Rattle.std.proofs.Common.{◌∙◌, arith}
use Rattle.format.specs.Refusals.{group_refusal, directory_refusal}
use Rattle.refusals.proofs.Laws.{exits_each}
use Rattle.packets.proofs.directory.parse_directory.Goals as goal

pub returns-in_err-check-clause-refusal : goal.returns-in_err-check-clause-refusal
unfolding directory_refusal
returns-in_err-check-clause-refusal c =
    exits_each _ _ c.from_residual.ensures.1 (group_refusal c.args.stream) c.loop-group.group 5 c.loop-group.invariant (c.in_err-check.ensures ∙ (λ j. group_refusal (c.of.ensures.0 j) (c.of.ensures.1 j))) (omega arith)
