use Rattle.gt_file_commands.proofs.Worked.{worked_as}
use Rattle.gt_file_commands.specs.Working.{Performs}
use Rattle.gt_file_commands.proofs.commands.work_asked.Goals as goal

pub returns : goal.returns
returns g c = worked_as (Performs c.args.work) _ _ _ _ _ _ c.perform_on-ending.result _ c.failed-failed.ensures c.perform_on-ending.ensures c.finish.ensures
