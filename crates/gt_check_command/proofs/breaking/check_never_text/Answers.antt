use Rattle.gt_check_command.proofs.Broken.{never_policy, never_words, written}
use Rattle.gt_check_command.proofs.breaking.check_never_text.Goals as goal

pub returns-in-Ok : goal.returns-in-Ok
returns-in-Ok g c =
    written c.args.form c.args.texts.now.never_file.now c.args.texts.now.never.now c.args.texts.now.file.now c.args.texts.now.policy.now c.in-Ok.found _ _ c.write_breaches.result c.in-Ok.ensures.ok c.write_breaches.ensures

pub returns-in-Err-Policy : goal.returns-in-Err-Policy
returns-in-Err-Policy g c =
    never_policy c.args.form c.args.texts.now.never_file.now c.args.texts.now.never.now c.args.texts.now.file.now c.args.texts.now.policy.now c.in-Err-Policy.fault.line c.in-Err-Policy.fault.kind _ _
    c.from.ensures (rw c.in-Err-Policy.field-0-is at c.in-Err-Policy.ensures.fault)

pub returns-in-Err-ForbidsNothing : goal.returns-in-Err-ForbidsNothing
returns-in-Err-ForbidsNothing g c =
    never_words c.args.form c.args.texts.now.never_file.now c.args.texts.now.never.now c.args.texts.now.file.now
    c.args.texts.now.policy.now c.in-Err-ForbidsNothing.words.items c.as_slice.result.now c.in-Err-ForbidsNothing.line _ _
    c.write_words.result (rw c.in-Err-ForbidsNothing.field-0-is at c.in-Err-ForbidsNothing.ensures.fault)
    c.as_slice.ensures.value c.write_words.ensures
