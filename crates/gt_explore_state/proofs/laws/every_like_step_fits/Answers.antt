use Rattle.gt_explore_state.proofs.AlikeFitting.{like-fits-step}
use Rattle.gt_explore_state.proofs.laws.every_like_step_fits.Goals as goal

pub returns : goal.returns
returns c = like-fits-step
