use Rattle.gt_explore_by_choice.proofs.Explored.{first_is}
use Rattle.gt_explore_by_choice.proofs.exploring.made_from.Goals as goal

pub returns-in-Ok : goal.returns-in-Ok
returns-in-Ok g c = λ source are.
    let makes = rw c.as_slice.ensures.value at c.made_whole.ensures in
    makes source are (first_is source c.in-Ok.whole.items c.args.choices.now are c.in-Ok.ensures)
