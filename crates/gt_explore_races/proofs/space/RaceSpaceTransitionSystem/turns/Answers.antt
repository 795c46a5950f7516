use Rattle.gt_explore_races.proofs.Spaces.{enough}
use Rattle.gt_explore_races.proofs.space.RaceSpaceTransitionSystem.turns.Goals as goal

pub returns : goal.returns
returns c =
    enough c.args.self.now.scene c.args.state.now c.in_ok-turns.turns.items c.push_races.new.turns.items c.in_ok-turns.ensures
    c.in_ok-push_races.ensures.kept c.in_ok-push_races.ensures.listed
