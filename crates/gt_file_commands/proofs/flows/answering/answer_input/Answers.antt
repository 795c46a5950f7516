use Rattle.gt_file_commands.proofs.FlowAnswers.{of-policy, of-script, of-no-text}
use Rattle.gt_file_commands.proofs.flows.answering.answer_input.Goals as goal

pub returns-then-script : goal.returns-then-script
returns-then-script g c = λ all e. of-script c.args.script all _ _ c.args.question.now _ _ _ c.if-script.true e
    c.in-Ok.ensures.text c.in-Ok.ensures.few c.in-Ok.ensures.utf8 c.answer_block.ensures

pub returns-else-script : goal.returns-else-script
returns-else-script g c = λ all e. of-policy c.args.script all _ _ c.args.question.now _ _ _ c.if-script.false e
    c.in-Ok.ensures.text c.in-Ok.ensures.few c.in-Ok.ensures.utf8 c.answer_text.ensures

pub returns-in-Err : goal.returns-in-Err
returns-in-Err g c = λ all e.
    of-no-text c.args.script all _ c.args.question.now c.in-Err.fault _ e c.in-Err.ensures.fault
