use Rattle.gt_core.proofs.GoingOn.{open-calls-can-go-on}
use Rattle.gt_core.proofs.laws.every_open_call_can_go_on.Goals as goal

pub returns : goal.returns
returns c = open-calls-can-go-on
