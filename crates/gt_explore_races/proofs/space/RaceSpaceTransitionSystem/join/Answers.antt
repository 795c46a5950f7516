use Rattle.std.proofs.lemmas.Result.{IfOk-weaker}
use Rattle.gt_explore_races.proofs.Spaces.{shown-so}
use Rattle.gt_explore_races.proofs.space.RaceSpaceTransitionSystem.join.Goals as goal

pub returns : goal.returns
returns c = λ w same. IfOk-weaker c.join.result _ _ (λ v so. shown-so c.args.self.now.scene w v so) (c.join.ensures w same)
