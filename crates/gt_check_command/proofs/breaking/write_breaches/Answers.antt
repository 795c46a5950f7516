use Rattle.gt_neverflow.specs.Printing.{IsNeverReport}
use Rattle.gt_check_command.proofs.Advised.{began_out, went_out}
use Rattle.gt_check_command.proofs.breaking.write_breaches.Goals as goal

pub returns-in-Ok-finish : goal.returns-in-Ok-finish
returns-in-Ok-finish g c = (
  c.is_clean.ensures,
  went_out (IsNeverReport c.args.form c.args.texts.now.file.now c.args.texts.now.policy.now c.args.texts.now.never_file.now c.args.texts.now.never.now c.args.found.now) _ _ c.in-Ok.said.items _ c.in-Ok.ensures c.as_slice.ensures.value c.in-Ok-finish.ensures.whole,
)

pub returns : goal.returns
returns g c =
    began_out (IsNeverReport c.args.form c.args.texts.now.file.now c.args.texts.now.policy.now c.args.texts.now.never_file.now c.args.texts.now.never.now c.args.found.now) _ _ c.in-Ok.said.items _ c.in-Ok.ensures c.as_slice.ensures.value c.finish.ensures.beginning
