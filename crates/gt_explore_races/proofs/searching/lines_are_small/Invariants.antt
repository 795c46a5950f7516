use Rattle.gt_explore_races.proofs.Saying.{AreSmallTo}
use Rattle.gt_explore_races.proofs.searching.lines_are_small.Given as goal

abbrev pub invariant-tasks : goal.invariant-tasks
invariant-tasks l = AreSmallTo l.tasks l.task-index
