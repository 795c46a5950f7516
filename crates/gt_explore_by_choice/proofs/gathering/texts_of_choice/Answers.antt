use Rattle.std.proofs.Common.{◌∙◌, sym}
use Rattle.gt_explore_answers.specs.Outputs.{found_from}
use Rattle.gt_explore_by_choice.proofs.United.{found_for, stuck_none}
use Rattle.gt_script.specs.RunContents.{run_contents}
use Rattle.gt_explore_by_choice.proofs.gathering.texts_of_choice.Goals as goal

pub returns-in-Ok-texts_found-clause-found : goal.returns-in-Ok-texts_found-clause-found
returns-in-Ok-texts_found-clause-found g c =
    found_for c.args.choice.now (run_contents c.in-Ok.script) (found_from c.in-Ok-texts_found.found) c.every_text_has_one_run.ensures c.in-Ok.ensures.script c.in-Ok-texts_found.ensures

pub returns-then-is_stuck-clause-none : goal.returns-then-is_stuck-clause-none
returns-then-is_stuck-clause-none g c =
    stuck_none c.args.choice.now c.in-Err.error c.every_text_has_one_run.ensures (sym c.is_stuck.ensures ∙ c.if-is_stuck.true) c.in-Err.ensures.script
