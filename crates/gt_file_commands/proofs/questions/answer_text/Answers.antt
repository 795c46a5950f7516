use Rattle.std.proofs.Common.{ap, inr, map, ◌∙◌, Some}
use Rattle.gt_text.specs.Laws.{keeps_same}
use Rattle.gt_file_commands.proofs.QuestionLemmas.{answers_lines}
use Rattle.gt_file_commands.proofs.questions.answer_text.Goals as goal

pub returns-in-Ok : goal.returns-in-Ok
returns-in-Ok g c =
    let same = ap (map (λ l. l.now)) c.as_slice.ensures.value ∙ c.in-Ok.ensures in
    answers_lines c.args.policy.each c.args.policy.file.now (Some c.args.policy.bytes.now) _ c.args.text.now _ _ _ same c.answer_those.ensures

pub returns-in-Err : goal.returns-in-Err
returns-in-Err g c = inr (c.fail.ensures, keeps_same _)
