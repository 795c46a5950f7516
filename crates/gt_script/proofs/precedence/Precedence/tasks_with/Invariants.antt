use Rattle.std.proofs.Common.{◌≡◌}
use Rattle.gt_script.specs.Preceding.{with_precedence}
use Rattle.gt_script.proofs.precedence.Precedence.tasks_with.Given as goal

abbrev pub invariant-tasks : goal.invariant-tasks
invariant-tasks l = l.made.items ≡ with_precedence l.flag l.self l.yielded
