use Rattle.std.proofs.lemmas.Result.{IfOk-weaker}
use Rattle.gt_explore_races.proofs.Spaces.{shows-first}
use Rattle.gt_explore_races.proofs.space.RaceSpaceTransitionSystem.start.Goals as goal

pub returns : goal.returns
returns c = IfOk-weaker c.start.result _ _ (λ w shows. shows-first c.args.self.now.scene w shows) c.start.ensures
