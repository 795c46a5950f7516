use Rattle.std.proofs.Common.{List, ℕ, Some}
use Rattle.std.specs.Str.Lines.{lines}
use Rattle.gt_file_commands.specs.Working.{AnswersLines}
use Rattle.gt_file_commands.proofs.GivenLemmas.{known_read}
use Rattle.gt_file_commands.specs.Laws.{with_text}
use Rattle.gt_file_commands.proofs.questions.answer_input.Goals as goal

pub returns-in-Ok : goal.returns-in-Ok
returns-in-Ok g c =
    let answered = rw c.as_slice.ensures.value at c.answer_bytes.ensures in
    with_text _ (λ (asked : List ℕ). AnswersLines c.args.policy.each c.args.policy.file.now (Some c.args.policy.bytes.now) (lines asked)) c.in-Ok.bytes.items _ _ _
    (known_read _ _ c.in-Ok.bytes.items c.input.ensures c.in-Ok.ensures) answered
