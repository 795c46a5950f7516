use Rattle.gt_roster.proofs.OneFrame.{runnable}
use Rattle.gt_roster.proofs.laws.every_configuration_within_limits_is_runnable.Goals as goal

pub returns : goal.returns
returns c = runnable
