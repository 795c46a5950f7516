use Rattle.gt_check_command.proofs.Broken.{never_bytes, never_no}
use Rattle.gt_check_command.proofs.breaking.check_never_bytes.Goals as goal

pub returns-in-Ok : goal.returns-in-Ok
returns-in-Ok g c = λ all e. never_bytes c.args.form c.args.never.file.now c.args.never.text.now c.args.file.now all _ _ _ _ _ e c.in-Ok.ensures.text c.in-Ok.ensures.few c.in-Ok.ensures.utf8 c.check_never_text.ensures

pub returns-in-Err : goal.returns-in-Err
returns-in-Err g c = λ all e. never_no c.args.form c.args.never.file.now c.args.never.text.now c.args.file.now all _ c.in-Err.fault _ e c.in-Err.ensures.fault
