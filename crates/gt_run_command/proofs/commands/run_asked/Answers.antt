use Rattle.gt_file_commands.specs.Laws.{worked}
use Rattle.gt_run_command.specs.Runs.{RunsDomains}
use Rattle.gt_run_command.proofs.commands.run_asked.Goals as goal

pub returns : goal.returns
returns g c = worked (RunsDomains c.args.options.format c.args.options.audit) _ _ _ _ _ c.run_on-ending.result _ c.run_on-ending.ensures c.report.ensures
