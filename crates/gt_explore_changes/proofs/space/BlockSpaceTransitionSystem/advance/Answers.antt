use Rattle.std.proofs.Common.{refl}
use Rattle.std.proofs.lemmas.Result.{IfOk-weaker}
use Rattle.gt_explore_changes.proofs.Spaces.{moves-on}
use Rattle.gt_explore_changes.proofs.space.BlockSpaceTransitionSystem.advance.Goals as goal

pub returns : goal.returns
returns c = IfOk-weaker c.advance.result _ _
    (λ led moves. moves-on c.args.self.now.scene c.args.self.now.most c.args.state.now c.args.turn led _ c.in-Some.blocks c.in-Some.ensures.some refl refl moves) c.advance.ensures
