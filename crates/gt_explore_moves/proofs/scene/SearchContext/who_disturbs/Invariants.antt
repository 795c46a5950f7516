use Rattle.gt_explore_moves.specs.Touches.{UndisturbedTo}
use Rattle.gt_explore_moves.proofs.scene.SearchContext.who_disturbs.Given as goal

abbrev pub invariant-loop-place : goal.invariant-loop-place
invariant-loop-place l = UndisturbedTo l.self l.world l.inside l.shut l.place
