use Rattle.std.proofs.Common.{refl}
use Rattle.gt_file_commands.proofs.Worked.{flow_answered}
use Rattle.gt_file_commands.proofs.asking.show_flow.Goals as goal

pub returns : goal.returns
returns g c = flow_answered c.args.script c.args.question _ _ _ _ _ _ _ _ _ (refl, refl, refl, refl) c.work_asked.ensures
