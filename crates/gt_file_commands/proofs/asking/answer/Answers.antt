use Rattle.std.proofs.Common.{refl}
use Rattle.gt_file_commands.proofs.Worked.{answered}
use Rattle.gt_file_commands.proofs.asking.answer.Goals as goal

pub returns : goal.returns
returns g c = answered c.shown_name-file_name.result.now _ _ _ _ _ _ _ _ _ _ _ c.shown_name-file_name.ensures (refl, refl, refl, refl) c.work_asked.ensures
