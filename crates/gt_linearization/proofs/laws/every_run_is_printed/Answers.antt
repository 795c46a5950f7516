use Rattle.gt_linearization.proofs.Explored.{runs-printed}
use Rattle.gt_linearization.proofs.laws.every_run_is_printed.Goals as goal

pub returns : goal.returns
returns c = runs-printed
