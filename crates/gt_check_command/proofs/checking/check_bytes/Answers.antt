use Rattle.gt_check_command.proofs.Advised.{checked_bytes, checked_no}
use Rattle.gt_check_command.proofs.checking.check_bytes.Goals as goal

pub returns-in-Ok : goal.returns-in-Ok
returns-in-Ok g c = λ all e. checked_bytes _ _ all _ _ _ _ _ e c.in-Ok.ensures.text c.in-Ok.ensures.few c.in-Ok.ensures.utf8 c.check_text.ensures

pub returns-in-Err : goal.returns-in-Err
returns-in-Err g c = λ all e. checked_no c.args.form c.args.file.now all _ c.in-Err.fault _ e c.in-Err.ensures.fault
