use Rattle.std.proofs.lemmas.Result.{IfOk-weaker}
use Rattle.gt_explore_kinds.specs.Marks.{all_operations}
use Rattle.gt_explore_kinds.proofs.Spaces.{moves}
use Rattle.gt_explore_kinds.proofs.space.KindSpaceTransitionSystem.advance.Goals as goal

pub returns : goal.returns
returns c =
    IfOk-weaker c.marked.result _ _
    (λ made marked. moves c.args.self.now.scene (all_operations c.args.self.now.expressions.now) c.args.state.now c.args.turn c.in_ok-led.led made c.advance.new.state marked c.in_ok-led.ensures)
    c.marked.ensures
