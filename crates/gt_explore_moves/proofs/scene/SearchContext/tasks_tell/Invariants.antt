use Rattle.std.proofs.Common.{◌≡◌, drop}
use Rattle.std.specs.List.{list_any}
use Rattle.gt_explore_moves.specs.Ends.{tasks_at}
use Rattle.gt_explore_moves.specs.Touches.{reachable, tells_shut}
use Rattle.gt_explore_moves.proofs.scene.SearchContext.tasks_tell.Given as goal

abbrev pub invariant-loop-at : goal.invariant-loop-at
invariant-loop-at l =
    list_any (tells_shut l.shut) (reachable l.shut (drop l.at (tasks_at l.self l.place)))
    ≡ list_any (tells_shut l.shut) (reachable l.shut (drop l.first (tasks_at l.self l.place)))
