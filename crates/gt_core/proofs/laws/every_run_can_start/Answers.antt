use Rattle.gt_core.proofs.GoingOn.{runs-start}
use Rattle.gt_core.proofs.laws.every_run_can_start.Goals as goal

pub returns : goal.returns
returns c = runs-start
