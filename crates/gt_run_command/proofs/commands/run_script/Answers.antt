use Rattle.gt_run_command.proofs.RunLemmas.{runs_so}
use Rattle.gt_run_command.proofs.commands.run_script.Goals as goal

pub returns : goal.returns
returns g c = runs_so _ _ _ _ _ _ c.run_with_reasons.result _ c.log_for.ensures c.run_with_reasons.ensures c.ending_of.ensures
