use Rattle.gt_flow.proofs.Searched.{what_is_reached_is_closed}
use Rattle.gt_flow.proofs.laws.what_is_reached_is_closed.Goals as goal

pub returns : goal.returns
returns c = what_is_reached_is_closed
