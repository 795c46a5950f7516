use Rattle.gt_live.proofs.Numbers.{changes_four}
use Rattle.gt_live.proofs.laws.every_change_makes_four_tries.Goals as goal

pub returns : goal.returns
returns c = changes_four
