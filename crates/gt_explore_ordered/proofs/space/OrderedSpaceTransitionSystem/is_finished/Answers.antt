use Rattle.gt_explore_ordered.proofs.OrderedRuns.{may-end}
use Rattle.gt_explore_ordered.proofs.space.OrderedSpaceTransitionSystem.is_finished.Goals as goal

pub returns : goal.returns
returns c = λ may.
    c.is_finished.ensures (may-end c.args.self.now.scene c.args.self.now.orders.now c.args.state.now may)
