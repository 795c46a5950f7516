use Rattle.std.proofs.Common.{true, false}
use Rattle.gt_text.specs.Laws.{keeps_same}
use Rattle.gt_check_command.proofs.Advised.{asked-answer, asked_no}
use Rattle.gt_check_command.proofs.explaining.explain_text.Goals as goal

pub returns-in-Err : goal.returns-in-Err
returns-in-Err g c =
    asked_no c.args.file.now _ c.args.request.now c.in-Err.fault.line c.in-Err.fault.kind _ _ c.from.ensures
    c.in-Err.ensures.fault

pub returns-in-Allowed : goal.returns-in-Allowed
returns-in-Allowed g c =
    let ok = c.in-Ok.ensures.ok in
    asked-answer _ _ c.args.request.now c.in-Ok.explanation true _ _ c.write_answer.result
    (ok.0, ok.1, ok.2, ok.3, ok.4, c.in-Allowed.is) c.write_answer.ensures

pub returns-in-Denied : goal.returns-in-Denied
returns-in-Denied g c =
    let ok = c.in-Ok.ensures.ok in
    asked-answer _ _ c.args.request.now c.in-Ok.explanation false _ _ c.write_answer-in-Denied.result
    (ok.0, ok.1, ok.2, ok.3, ok.4, c.in-Denied.is) c.write_answer-in-Denied.ensures

pub returns-in-NoSource : goal.returns-in-NoSource
returns-in-NoSource g c =
    let ok = c.in-Ok.ensures.ok in
    ((c.in-Ok.explanation, (ok.0, ok.1, ok.2, ok.3, ok.4, c.in-NoSource.is)), keeps_same _)

pub returns-in-NoTarget : goal.returns-in-NoTarget
returns-in-NoTarget g c =
    let ok = c.in-Ok.ensures.ok in
    ((c.in-Ok.explanation, (ok.0, ok.1, ok.2, ok.3, ok.4, c.in-NoTarget.is)), keeps_same _)

pub returns-in-NoPermission : goal.returns-in-NoPermission
returns-in-NoPermission g c =
    let ok = c.in-Ok.ensures.ok in
    ((c.in-Ok.explanation, (ok.0, ok.1, ok.2, ok.3, ok.4, c.in-NoPermission.is)), keeps_same _)
