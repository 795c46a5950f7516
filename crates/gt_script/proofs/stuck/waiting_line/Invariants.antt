use Rattle.std.proofs.Common.{take}
use Rattle.gt_script.specs.Stuck.{PassesAll}
use Rattle.gt_script.specs.Rounds.{HasFlag}
use Rattle.gt_script.proofs.stuck.waiting_line.Given as goal

abbrev pub invariant-tasks : goal.invariant-tasks
invariant-tasks l = PassesAll (HasFlag l.told) l.dom (take l.task-index l.tasks)
