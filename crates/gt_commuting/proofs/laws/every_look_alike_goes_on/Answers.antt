use Rattle.gt_commuting.proofs.Swapping.{right-same, seen-grows}
use Rattle.gt_commuting.proofs.laws.every_look_alike_goes_on.Goals as goal

pub returns : goal.returns
returns c s g h i same = (right-same s g h i same, seen-grows s g h i same)
