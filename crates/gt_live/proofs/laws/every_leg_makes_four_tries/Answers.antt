use Rattle.gt_live.proofs.Numbers.{legs_four}
use Rattle.gt_live.proofs.laws.every_leg_makes_four_tries.Goals as goal

pub returns : goal.returns
returns c = legs_four
