use Rattle.std.proofs.Common.{inr, Some}
use Rattle.gt_text.specs.Laws.{keeps_same}
use Rattle.gt_file_commands.proofs.QuestionLemmas.{answers_bytes}
use Rattle.gt_file_commands.proofs.questions.answer_bytes.Goals as goal

pub returns-in-Ok : goal.returns-in-Ok
returns-in-Ok g c = answers_bytes c.args.policy.each c.args.policy.file.now (Some c.args.policy.bytes.now) c.in-Ok.text.now c.args.bytes.now _ _ _ c.in-Ok.ensures.text.0 c.answer_text.ensures

pub returns-in-Err : goal.returns-in-Err
returns-in-Err g c = inr (c.fail.ensures, keeps_same _)
