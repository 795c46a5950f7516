use Rattle.gt_command_line.specs.Commands.{sought_by}
use Rattle.std.proofs.Common.{subst}
use Rattle.gt_program.proofs.Obeyed.{sought_so}
use Rattle.gt_program.specs.Obeying.{IsAskedFor}
use Rattle.gt_program.proofs.exploring.explore.Goals as goal

pub returns : goal.returns
returns g c =
    sought_so _ _ _ _ _ _ _ _ _ (subst (λ f. IsAskedFor (sought_by c.args.asked) c.args.options.states f c.asked_for-asked.result) c.explore_format.ensures c.asked_for-asked.ensures) c.search_asked.ensures
