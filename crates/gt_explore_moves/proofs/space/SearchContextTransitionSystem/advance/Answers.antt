use Rattle.std.proofs.lemmas.Result.{IfOk-weaker}
use Rattle.gt_explore_moves.proofs.SpaceMoves.{moves-to}
use Rattle.gt_explore_moves.proofs.space.SearchContextTransitionSystem.advance.Goals as goal

pub returns : goal.returns
returns c = IfOk-weaker c.advance.result _ _ (λ led along. moves-to c.args.self.now c.args.turn c.args.state.now led c.advance.new.world along) c.advance.ensures
