use Rattle.std.proofs.lemmas.Result.{IfOk-weaker}
use Rattle.gt_explore_kinds.proofs.space.KindSpaceTransitionSystem.join.Goals as goal

pub returns : goal.returns
returns c = λ w same. IfOk-weaker c.join.result _ _ (λ v shown p shows. (shown p shows.0, shows.1)) (c.join.ensures w same)
