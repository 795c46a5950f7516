use Rattle.gt_live.proofs.GivingUp.{four-missed}
use Rattle.gt_live.proofs.laws.every_call_that_gives_up_missed_four_tries.Goals as goal

pub returns : goal.returns
returns c = four-missed
