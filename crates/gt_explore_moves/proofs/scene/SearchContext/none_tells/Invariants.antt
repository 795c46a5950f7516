use Rattle.gt_explore_moves.specs.Touches.{NoneTells}
use Rattle.gt_explore_moves.proofs.scene.SearchContext.none_tells.Given as goal

abbrev pub invariant-loop-place : goal.invariant-loop-place
invariant-loop-place l = NoneTells l.self l.world l.inside l.shut l.place
