use Rattle.gt_explore_kinds.specs.Marks.{all_operations}
use Rattle.gt_explore_kinds.proofs.Spaces.{may_end}
use Rattle.gt_explore_kinds.proofs.space.KindSpaceTransitionSystem.is_finished.Goals as goal

pub returns : goal.returns
returns c = λ may.
    c.is_finished.ensures (may_end c.args.self.now.scene (all_operations c.args.self.now.expressions.now) c.args.state.now may)
