use Rattle.gt_explore_moves.proofs.MovesListed.{AreDoneTo}
use Rattle.gt_explore_moves.proofs.scene.SearchContext.is_finished.Given as goal

abbrev pub invariant-loop-place : goal.invariant-loop-place
invariant-loop-place l = AreDoneTo l.place l.self l.world.actors.items
