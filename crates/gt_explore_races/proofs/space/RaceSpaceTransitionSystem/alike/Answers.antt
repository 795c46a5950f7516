use Rattle.gt_explore_races.proofs.Spaces.{shown-so}
use Rattle.gt_explore_races.proofs.space.RaceSpaceTransitionSystem.alike.Goals as goal

pub returns : goal.returns
returns c = λ w v same. shown-so c.args.self.now.scene w v (c.alike.ensures w v same)
