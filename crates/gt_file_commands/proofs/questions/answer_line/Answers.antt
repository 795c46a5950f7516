use Rattle.std.proofs.Common.{ap, inr, map, ◌∙◌, Some}
use Rattle.gt_text.specs.Laws.{keeps_same}
use Rattle.gt_file_commands.proofs.QuestionLemmas.{answers_line}
use Rattle.gt_file_commands.proofs.questions.answer_line.Goals as goal

pub returns-in-Ok : goal.returns-in-Ok
returns-in-Ok g c =
    let same = ap (map (λ w. w.now)) c.as_slice.ensures.value ∙ c.in-Ok.ensures in
    answers_line c.args.policy.each c.args.policy.file.now (Some c.args.policy.bytes.now) _ c.args.line.now _ _ _ same c.answer_words.ensures

pub returns-in-Err : goal.returns-in-Err
returns-in-Err g c = inr (c.fail.ensures, keeps_same _)
