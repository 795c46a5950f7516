use Rattle.std.proofs.Common.{◌≡◌, take}
use Rattle.std.specs.List.{flat_map}
use Rattle.gt_explore_answers.specs.Exploring.{call_of_task}
use Rattle.gt_explore_answers.proofs.conditions.calls_in.Given as goal

abbrev pub invariant-tasks : goal.invariant-tasks
invariant-tasks l = l.calls.items ≡ flat_map call_of_task (take l.task-index l.tasks)
