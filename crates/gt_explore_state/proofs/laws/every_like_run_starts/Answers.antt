use Rattle.gt_explore_state.proofs.GoingAlike.{like-starts}
use Rattle.gt_explore_state.proofs.laws.every_like_run_starts.Goals as goal

pub returns : goal.returns
returns c = like-starts
