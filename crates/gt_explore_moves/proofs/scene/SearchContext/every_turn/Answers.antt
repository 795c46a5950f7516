use Rattle.std.proofs.lemmas.Result.{IfOk-weaker}
use Rattle.gt_explore_moves.proofs.SpaceMoves.{each-turn}
use Rattle.gt_explore_moves.proofs.scene.SearchContext.every_turn.Goals as goal

pub returns : goal.returns
returns c = IfOk-weaker c.all_turns.result _ _ (λ turns are. each-turn c.args.self.now c.args.world.now turns.items are) c.all_turns.ensures
