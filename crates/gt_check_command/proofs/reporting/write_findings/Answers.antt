use Rattle.std.proofs.Common.{ap, not}
use Rattle.gt_findings.specs.Report.{IsReport}
use Rattle.gt_check_command.proofs.Advised.{began_out, went_out}
use Rattle.gt_check_command.proofs.reporting.write_findings.Goals as goal

pub returns-in-Ok-finish : goal.returns-in-Ok-finish
returns-in-Ok-finish g c = (
  ap not c.has_error.ensures,
  went_out (IsReport c.args.form c.args.file.now c.args.found.now) _ _ c.in-Ok.said.items _ c.in-Ok.ensures c.as_slice.ensures.value c.in-Ok-finish.ensures.whole,
)

pub returns : goal.returns
returns g c = began_out (IsReport c.args.form c.args.file.now c.args.found.now) _ _ c.in-Ok.said.items _ c.in-Ok.ensures c.as_slice.ensures.value c.finish.ensures.beginning
