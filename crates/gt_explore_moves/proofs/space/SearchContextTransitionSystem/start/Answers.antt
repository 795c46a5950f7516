use Rattle.gt_explore_moves.proofs.FirstWorld.{first-shown}
use Rattle.gt_explore_moves.proofs.space.SearchContextTransitionSystem.start.Goals as goal

pub returns : goal.returns
returns c = first-shown c.args.self.now _ c.in_ok-start.ensures
