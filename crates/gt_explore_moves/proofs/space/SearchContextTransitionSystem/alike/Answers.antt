use Rattle.gt_explore_moves.proofs.Joining.{parts-same}
use Rattle.gt_explore_moves.proofs.ShownBySame.{shown-so}
use Rattle.gt_explore_moves.proofs.space.SearchContextTransitionSystem.alike.Goals as goal

pub returns : goal.returns
returns c = λ w v each. shown-so c.args.self.now w v (parts-same w v each)
