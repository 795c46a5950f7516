use Rattle.gt_program.proofs.Chosen.{searched_chosen, searched_plain, unsearched}
use Rattle.gt_program.proofs.exploring.search_text.Goals as goal

pub returns-in-Ok-Some : goal.returns-in-Ok-Some
returns-in-Ok-Some g c = λ all e.
    searched_chosen c.args.asked.now all c.in-Ok-Some.source c.in-Ok-Some.field-0 _ _ c.search_choices.result (c.in-Ok-Some.ensures all e) c.in-Ok-Some.field-0-is c.search_choices.ensures

pub returns-in-Ok-None : goal.returns-in-Ok-None
returns-in-Ok-None g c = λ all e.
    searched_plain c.args.asked.now all c.in-Ok-None.field-0 _ _ c.search_plain.result (c.in-Ok-None.ensures all e) c.in-Ok-None.field-0-is (c.search_plain.ensures all e)

pub returns-in-Err : goal.returns-in-Err
returns-in-Err g c = λ all e. unsearched c.args.asked.now all _
