use Rattle.gt_check_command.proofs.Advised.{explained_bytes, explained_no}
use Rattle.gt_check_command.proofs.explaining.explain_bytes.Goals as goal

pub returns-in-Ok : goal.returns-in-Ok
returns-in-Ok g c = λ all e. explained_bytes _ all _ _ _ _ _ _ e c.in-Ok.ensures.text c.in-Ok.ensures.few c.in-Ok.ensures.utf8 c.explain_text.ensures

pub returns-in-Err : goal.returns-in-Err
returns-in-Err g c = λ all e. explained_no c.args.file.now all _ c.args.request.now c.in-Err.fault _ e c.in-Err.ensures.fault
