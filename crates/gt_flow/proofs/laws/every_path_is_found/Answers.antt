use Rattle.gt_flow.proofs.Searched.{every_path_is_found}
use Rattle.gt_flow.proofs.laws.every_path_is_found.Goals as goal

pub returns : goal.returns
returns c = every_path_is_found
