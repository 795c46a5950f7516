use Rattle.std.proofs.Common.{take, All}
use Rattle.gt_explore_moves.specs.Granting.{IsListed}
use Rattle.gt_explore_moves.proofs.granted.entries_granted.Given as goal

abbrev pub invariant-tasks : goal.invariant-tasks
invariant-tasks l = All (IsListed l.grants.items) (take l.task-index l.tasks)
