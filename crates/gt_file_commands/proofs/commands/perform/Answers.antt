use Rattle.std.proofs.Common.{ℕ, List}
use Rattle.gt_check_command.specs.Explaining.{Explained}
use Rattle.gt_file_commands.specs.FlowBlocks.{FlowedAs}
use Rattle.gt_file_commands.proofs.Worked.{answered_input, for_work}
use Rattle.gt_file_commands.proofs.commands.perform.Goals as goal

pub returns-in-Ok : goal.returns-in-Ok
returns-in-Ok g c = for_work _ _ _ _ _ _ c.in-Play.is c.in-Ok.ensures

pub returns-in-Ok-list_with_reasons : goal.returns-in-Ok-list_with_reasons
returns-in-Ok-list_with_reasons g c = for_work _ _ _ _ _ _ c.in-List.is c.in-Ok-list_with_reasons.ensures

pub returns-in-Check : goal.returns-in-Check
returns-in-Check g c = for_work _ _ _ _ _ _ c.in-Check.is c.perform_check.ensures

pub returns-in-Ok-why_explained : goal.returns-in-Ok-why_explained
returns-in-Ok-why_explained g c = for_work _ _ _ _ _ _ c.in-Why.is
    (answered_input _ (λ (input : List ℕ). Explained c.in-Why.file.now c.in-Why.request input (g.W.Write.contents c.args.out.now) (g.W.Write.contents c.why_explained.new.out)) _ _
    c.of_answer.ensures c.in-Ok-why_explained.ensures)

pub returns-in-Err-why_explained : goal.returns-in-Err-why_explained
returns-in-Err-why_explained g c = for_work _ _ _ _ _ _ c.in-Why.is c.in-Err-why_explained.ensures

pub returns-in-Ok-flow_explained : goal.returns-in-Ok-flow_explained
returns-in-Ok-flow_explained g c = for_work _ _ _ _ _ _ c.in-Flow.is
    (answered_input _ (λ (input : List ℕ). FlowedAs c.in-Flow.script c.in-Flow.question input (g.W.Write.contents c.args.out.now) (g.W.Write.contents c.flow_explained.new.out)) _ _
    c.of_answer-in-Ok-flow_explained.ensures c.in-Ok-flow_explained.ensures)

pub returns-in-Err-flow_explained : goal.returns-in-Err-flow_explained
returns-in-Err-flow_explained g c = for_work _ _ _ _ _ _ c.in-Flow.is c.in-Err-flow_explained.ensures

pub returns-in-Ok-entries_explained : goal.returns-in-Ok-entries_explained
returns-in-Ok-entries_explained g c = for_work _ _ _ _ _ _ c.in-Entries.is c.in-Ok-entries_explained.ensures

pub returns-in-Err-entries_explained : goal.returns-in-Err-entries_explained
returns-in-Err-entries_explained g c = for_work _ _ _ _ _ _ c.in-Entries.is c.in-Err-entries_explained.ensures
