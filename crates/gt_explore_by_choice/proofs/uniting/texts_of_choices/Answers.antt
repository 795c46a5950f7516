use Rattle.gt_explore_answers.specs.Outputs.{found_from}
use Rattle.gt_explore_by_choice.proofs.United.{all_united}
use Rattle.gt_explore_by_choice.proofs.uniting.texts_of_choices.Goals as goal

pub returns-in-Ok-clause-ok : goal.returns-in-Ok-clause-ok
returns-in-Ok-clause-ok g c = λ source each all.
    all_united source c.args.choices.now c.in_ok-all.all.orders.items (found_from c.in-Ok.texts.found) c.in_ok-all.all.whole c.in-Ok.texts.waiting c.in_ok-all.all.waiting
    c.in_ok-all.ensures.ok c.in-Ok.ensures.among c.in-Ok.ensures.every c.in-Ok.ensures.ascending c.in-Ok.ensures.whole c.in-Ok.ensures.waiting each all
