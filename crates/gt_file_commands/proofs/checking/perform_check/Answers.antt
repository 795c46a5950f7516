use Rattle.gt_file_commands.proofs.Worked.{for_kind}
use Rattle.gt_file_commands.proofs.checking.perform_check.Goals as goal

pub returns-in-Policy : goal.returns-in-Policy
returns-in-Policy g c = for_kind _ _ _ _ _ _ _ _ c.in-Policy.is c.perform_plain.ensures

pub returns-in-Script : goal.returns-in-Script
returns-in-Script g c = for_kind _ _ _ _ _ _ _ _ c.in-Script.is c.perform_plain-in-Script.ensures

pub returns-in-Never : goal.returns-in-Never
returns-in-Never g c = for_kind _ _ _ _ _ _ _ _ c.in-Never.is c.perform_never.ensures
