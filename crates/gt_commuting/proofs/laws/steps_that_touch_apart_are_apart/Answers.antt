use Rattle.gt_commuting.proofs.Swapping.{steps-apart-in}
use Rattle.gt_commuting.proofs.laws.steps_that_touch_apart_are_apart.Goals as goal

pub returns : goal.returns
returns c s h i j y z v w touch one other = steps-apart-in s h i j y z v w touch one other
