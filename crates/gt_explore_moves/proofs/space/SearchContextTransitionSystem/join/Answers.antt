use Rattle.std.proofs.lemmas.Result.{IfOk-weaker}
use Rattle.gt_explore_moves.proofs.Joining.{made-same}
use Rattle.gt_explore_moves.proofs.ShownBySame.{shown-so}
use Rattle.gt_explore_moves.proofs.space.SearchContextTransitionSystem.join.Goals as goal

pub returns : goal.returns
returns c = λ w each.
    IfOk-weaker c.join.result _ _ (λ v made. shown-so c.args.self.now w v (made-same w v c.args.made.items made each)) c.join.ensures
