use Rattle.std.proofs.lemmas.Result.{IfOk-weaker}
use Rattle.gt_explore_ordered.proofs.space.OrderedSpaceTransitionSystem.join.Goals as goal

pub returns : goal.returns
returns c = λ w same. IfOk-weaker c.join.result _ _ (λ v shown p shows. (shown p.run shows.0, shows.1, shows.2)) (c.join.ensures w same)
