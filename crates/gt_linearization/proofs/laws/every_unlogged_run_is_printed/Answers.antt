use Rattle.gt_linearization.proofs.Unlogged.{unlogged-print}
use Rattle.gt_linearization.proofs.laws.every_unlogged_run_is_printed.Goals as goal

pub returns : goal.returns
returns c = unlogged-print
