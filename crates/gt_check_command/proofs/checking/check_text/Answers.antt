use Rattle.gt_check_command.proofs.Advised.{checked_text}
use Rattle.gt_check_command.proofs.checking.check_text.Goals as goal

pub returns-in-Ok : goal.returns-in-Ok
returns-in-Ok g c = checked_text c.args.form c.args.file.now c.args.text.now _ _ _ _ _ c.in-Ok.ensures c.as_slice.ensures.value c.write_findings.ensures
