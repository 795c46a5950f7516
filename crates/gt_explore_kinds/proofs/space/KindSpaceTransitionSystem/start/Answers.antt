use Rattle.std.proofs.lemmas.Result.{IfOk-weaker}
use Rattle.gt_explore_kinds.specs.Marks.{all_operations}
use Rattle.gt_explore_kinds.proofs.Spaces.{starts}
use Rattle.gt_explore_kinds.proofs.space.KindSpaceTransitionSystem.start.Goals as goal

pub returns : goal.returns
returns c =
    IfOk-weaker c.start.result _ _ (λ w shows. starts c.args.self.now.scene (all_operations c.args.self.now.expressions.now) w shows) c.start.ensures
