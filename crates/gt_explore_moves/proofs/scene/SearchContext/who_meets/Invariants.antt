use Rattle.gt_explore_moves.specs.Touches.{NoneMeets}
use Rattle.gt_explore_moves.proofs.scene.SearchContext.who_meets.Given as goal

abbrev pub invariant-loop-place : goal.invariant-loop-place
invariant-loop-place l = NoneMeets l.self l.world l.inside l.shut l.next l.place
