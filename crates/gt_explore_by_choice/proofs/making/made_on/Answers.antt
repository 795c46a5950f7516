use Rattle.gt_explore_by_choice.proofs.Explored.{fault_among}
use Rattle.gt_explore_by_choice.proofs.making.made_on.Goals as goal

pub returns-in-Ok : goal.returns-in-Ok
returns-in-Ok g c = λ source are. c.made_of.ensures source are (c.in-Ok.ensures.ok source are.each are.whole)

pub returns-in-Err : goal.returns-in-Err
returns-in-Err g c = λ source are. fault_among source c.args.asked.now.request c.args.choices.now c.in-Err.fault are c.in-Err.ensures.fault
