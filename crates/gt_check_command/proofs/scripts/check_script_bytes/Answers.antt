use Rattle.gt_text.specs.Laws.{keeps_same}
use Rattle.gt_check_command.proofs.Scripted.{checked_script}
use Rattle.gt_check_command.proofs.scripts.check_script_bytes.Goals as goal

pub returns-in-Ok : goal.returns-in-Ok
returns-in-Ok g c = λ all e. checked_script c.args.form c.args.file.now all _ _ _ _ _ (c.in-Ok.ensures all e) c.as_slice.ensures.value c.write_findings.ensures

pub returns-in-Err : goal.returns-in-Err
returns-in-Err g c = λ all e. keeps_same _
