use Rattle.gt_explore_moves.proofs.Undisturbed.{enough-turns}
use Rattle.gt_explore_moves.proofs.space.SearchContextTransitionSystem.turns.Goals as goal

pub returns : goal.returns
returns c = enough-turns c.args.self.now c.args.state.now _ c.in_ok-turns.ensures
