use Rattle.gt_explore_moves.proofs.SpaceMoves.{may-end}
use Rattle.gt_explore_moves.proofs.space.SearchContextTransitionSystem.is_finished.Goals as goal

pub returns : goal.returns
returns c = λ may. c.is_finished.ensures.end (may-end c.args.self.now c.args.state.now may)
