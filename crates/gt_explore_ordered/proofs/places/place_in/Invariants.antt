use Rattle.std.proofs.Common.{◌≤◌}
use Rattle.gt_explore_moves.specs.Ends.{tasks_at}
use Rattle.gt_explore_ordered.proofs.Finding.{IsPassed}
use Rattle.gt_explore_ordered.proofs.places.place_in.Given as goal

-- the tasks so far are not the call
abbrev pub invariant-loop-index : goal.invariant-loop-index
invariant-loop-index l = record {
  few : l.before ≤ l.index;
  passed : IsPassed l.line (tasks_at l.scene l.place) l.index l.before;
}
