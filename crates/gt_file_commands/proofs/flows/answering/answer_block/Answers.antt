use Rattle.std.proofs.Common.{ap, option_map, sym, ◌∙◌, Option}
use Rattle.std.specs.Prelude.{string_bytes}
use Rattle.gt_file_commands.proofs.FlowAnswers.{no-memory, of-block, without-block}
use Rattle.gt_file_commands.proofs.flows.answering.answer_block.Goals as goal

pub returns-in_default : goal.returns-in_default
returns-in_default g c = no-memory _ c.args.question.now _

pub returns-in-Some : goal.returns-in-Some
returns-in-Some g c = of-block (string_bytes c.in-Some.block) c.as_str.result.now _ c.args.question.now _ _ _
    (ap (λ o. option_map string_bytes o) (sym c.in-Some.is) ∙ c.in-Ok.ensures) c.as_str.ensures.value c.as_str.utf8
    c.answer_text.ensures

pub returns-in-None : goal.returns-in-None
returns-in-None g c = without-block _ c.args.question.now _
    (ap (λ o. option_map string_bytes o) (sym c.in-None.is) ∙ c.in-Ok.ensures)
