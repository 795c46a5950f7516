use Rattle.gt_explore_state.proofs.GoingAlike.{like-goes-on}
use Rattle.gt_explore_state.proofs.laws.every_like_run_goes_on.Goals as goal

pub returns : goal.returns
returns c = like-goes-on
