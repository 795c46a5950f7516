use Rattle.std.proofs.Common.{◌∙◌}
use Rattle.gt_explore_by_choice.proofs.Explored.{unread_whole}
use Rattle.gt_explore_by_choice.proofs.exploring.made_whole.Goals as goal

pub returns-in-Ok-parse_run : goal.returns-in-Ok-parse_run
returns-in-Ok-parse_run g c = λ source are whole. c.made_by.ensures source are (c.in-Ok.ensures.text.0 ∙ whole) (rw whole at c.in-Ok-parse_run.ensures.script)

pub returns-in-Err : goal.returns-in-Err
returns-in-Err g c = λ source are whole.
    unread_whole source c.args.whole.now c.args.choices.now c.args.asked.now.request c.in-Err.error c.from.result are whole c.in-Err.ensures.script c.from.ensures
