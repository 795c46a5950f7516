use Rattle.gt_core.proofs.GoingOn.{calls-can-begin}
use Rattle.gt_core.proofs.laws.every_call_can_begin.Goals as goal

pub returns : goal.returns
returns c = calls-can-begin
