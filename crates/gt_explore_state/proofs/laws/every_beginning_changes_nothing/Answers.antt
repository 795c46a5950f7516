use Rattle.gt_explore_state.proofs.Fitting.{beginnings-change-nothing}
use Rattle.gt_explore_state.proofs.laws.every_beginning_changes_nothing.Goals as goal

pub returns : goal.returns
returns c = beginnings-change-nothing
