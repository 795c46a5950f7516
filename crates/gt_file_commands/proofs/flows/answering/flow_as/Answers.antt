use Rattle.std.proofs.Common.{ℕ, List}
use Rattle.gt_text.specs.Laws.{of_input}
use Rattle.gt_file_commands.specs.FlowBlocks.{FlowedAs}
use Rattle.gt_file_commands.proofs.FlowAnswers.{of-unread}
use Rattle.gt_file_commands.proofs.flows.answering.flow_as.Goals as goal

pub returns-in-Ok : goal.returns-in-Ok
returns-in-Ok g c =
    let answered = rw c.as_slice.ensures.value at c.answer_input.ensures in
    of_input _ c.in-Ok.input.items (λ (input : List ℕ). FlowedAs c.args.script c.args.question.now input _ _ c.answer_input.result)
    c.in-Ok.ensures.limit c.in-Ok.ensures.text answered

pub returns-in-Err : goal.returns-in-Err
returns-in-Err g c = of-unread c.args.script c.args.question.now _ _ c.in-Err.fault _ c.from.ensures
