use Rattle.std.proofs.Common.{refl}
use Rattle.gt_file_commands.proofs.Worked.{of_number, told}
use Rattle.gt_file_commands.proofs.asking.show_entries.Goals as goal

pub returns : goal.returns
returns g c = of_number _ _ _ _ _ _ _ _ _ _ _ c.domain-script.ensures (told _ _ _ _ _ _ _ _ _ _ _ (refl, refl, refl, refl) c.work_asked.ensures)
