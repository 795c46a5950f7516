use Rattle.std.proofs.Common.{◌≡◌, drop}
use Rattle.gt_explore_racing.specs.Calls.{task_of_line}
use Rattle.gt_explore_racing.proofs.calls.task_of_line.Given as goal

abbrev pub invariant-tasks : goal.invariant-tasks
invariant-tasks l = task_of_line l.line l.tasks ≡ task_of_line l.line (drop l.task-index l.tasks)
