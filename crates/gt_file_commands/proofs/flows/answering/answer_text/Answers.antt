use Rattle.std.proofs.Common.{true, false}
use Rattle.gt_text.specs.Laws.{keeps_same}
use Rattle.gt_file_commands.proofs.FlowAnswers.{flow-lines, flow-no}
use Rattle.gt_file_commands.proofs.flows.answering.answer_text.Goals as goal

pub returns-in-Err : goal.returns-in-Err
returns-in-Err g c = flow-no _ c.args.question.now c.in-Err.fault.line c.in-Err.fault.kind _ _ c.from.ensures c.in-Err.ensures.fault

pub returns-in-Path : goal.returns-in-Path
returns-in-Path g c = flow-lines _ c.as_slice.result.now c.args.question.now c.in-Ok.report true _ _ c.write_lines.result c.as_slice.ensures.value
    (c.in-Ok.ensures.ok, c.in-Path.is) c.write_lines.ensures

pub returns-in-NoPath : goal.returns-in-NoPath
returns-in-NoPath g c = flow-lines _ c.as_slice-in-NoPath.result.now c.args.question.now c.in-Ok.report false _ _ c.write_lines-in-NoPath.result
    c.as_slice-in-NoPath.ensures.value (c.in-Ok.ensures.ok, c.in-NoPath.is) c.write_lines-in-NoPath.ensures

pub returns-in-NoSource : goal.returns-in-NoSource
returns-in-NoSource g c = ((c.in-Ok.report, (c.in-Ok.ensures.ok, c.in-NoSource.is)), keeps_same _)

pub returns-in-NoTarget : goal.returns-in-NoTarget
returns-in-NoTarget g c = ((c.in-Ok.report, (c.in-Ok.ensures.ok, c.in-NoTarget.is)), keeps_same _)

pub returns : goal.returns
returns g c = ((c.in-Ok.report, (c.in-Ok.ensures.ok, c.in-NoTrusted.is)), keeps_same _)
