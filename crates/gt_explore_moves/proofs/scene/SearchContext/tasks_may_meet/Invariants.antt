use Rattle.std.proofs.Common.{◌≡◌, drop}
use Rattle.std.specs.List.{list_any}
use Rattle.gt_explore_moves.specs.Ends.{tasks_at}
use Rattle.gt_explore_moves.specs.Touches.{meets_task, reachable}
use Rattle.gt_explore_moves.proofs.scene.SearchContext.tasks_may_meet.Given as goal

abbrev pub invariant-loop-at : goal.invariant-loop-at
invariant-loop-at l =
    list_any (meets_task l.self.grants.items l.uses l.next) (reachable l.shut (drop l.at (tasks_at l.self l.place)))
    ≡ list_any (meets_task l.self.grants.items l.uses l.next) (reachable l.shut (drop l.first (tasks_at l.self l.place)))
