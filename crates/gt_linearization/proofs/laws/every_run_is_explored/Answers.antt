use Rattle.gt_linearization.proofs.Explored.{runs-explored}
use Rattle.gt_linearization.proofs.laws.every_run_is_explored.Goals as goal

pub returns : goal.returns
returns c = runs-explored
