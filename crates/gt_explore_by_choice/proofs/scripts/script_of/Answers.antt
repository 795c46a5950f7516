use Rattle.gt_explore_by_choice.proofs.Answered.{shows_choice}
use Rattle.gt_explore_by_choice.proofs.scripts.script_of.Goals as goal

pub returns-in-Some : goal.returns-in-Some
returns-in-Some c = λ source each.
    shows_choice source c.args.choices.now c.choices.at c.in_ok-choice.choice.items c.in_ok-shown.shown c.in-Some.lines c.args.order.now.text.items each c.in_ok-choice.ensures
    (rw c.as_slice.ensures.value at c.in_ok-shown.ensures) c.in-Some.is
