use Rattle.std.proofs.Common.{[]}
use Rattle.gt_explore_by_choice.proofs.Explored.{made_so_plain, unmade_plain}
use Rattle.gt_explore_by_choice.proofs.making.made_plain.Goals as goal

pub returns-in-Ok : goal.returns-in-Ok
returns-in-Ok g c = λ source base are reads. made_so_plain source c.args.asked.now.request base [] c.in-Ok.made reads c.requires (c.in-Ok.ensures source are)

pub returns-in-Err : goal.returns-in-Err
returns-in-Err g c = λ source base are reads. unmade_plain source c.args.asked.now.request [] c.in-Err.fault (c.in-Err.ensures source are)
