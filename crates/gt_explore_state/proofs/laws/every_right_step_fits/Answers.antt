use Rattle.gt_explore_state.proofs.Fitting.{right-steps-fit}
use Rattle.gt_explore_state.proofs.laws.every_right_step_fits.Goals as goal

pub returns : goal.returns
returns c = right-steps-fit
