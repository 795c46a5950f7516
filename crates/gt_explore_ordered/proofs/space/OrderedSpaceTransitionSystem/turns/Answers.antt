use Rattle.gt_explore_ordered.proofs.OrderedRuns.{enough}
use Rattle.gt_explore_ordered.proofs.space.OrderedSpaceTransitionSystem.turns.Goals as goal

pub returns : goal.returns
returns c = enough c.args.self.now.scene c.args.self.now.orders.now c.args.state.now _ c.in_ok-every_turn.ensures
