use Rattle.gt_core.proofs.GoingOn.{open-calls-can-access}
use Rattle.gt_core.proofs.laws.every_open_call_can_access.Goals as goal

pub returns : goal.returns
returns c = open-calls-can-access
