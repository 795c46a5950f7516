use Rattle.gt_commuting.proofs.Swapping.{began-apart}
use Rattle.gt_commuting.proofs.laws.every_beginning_is_apart.Goals as goal

pub returns : goal.returns
returns c s h i j request apart is = began-apart s h i j request apart is
