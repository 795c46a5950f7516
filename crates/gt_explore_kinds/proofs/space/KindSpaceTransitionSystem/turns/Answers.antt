use Rattle.std.proofs.lemmas.Result.{IfOk-weaker}
use Rattle.gt_explore_kinds.specs.Marks.{all_operations}
use Rattle.gt_explore_kinds.proofs.Spaces.{enough}
use Rattle.gt_explore_kinds.proofs.space.KindSpaceTransitionSystem.turns.Goals as goal

pub returns : goal.returns
returns c =
    IfOk-weaker c.turns.result _ _ (λ turns has. enough c.args.self.now.scene (all_operations c.args.self.now.expressions.now) c.args.state.now turns.items has) c.turns.ensures
