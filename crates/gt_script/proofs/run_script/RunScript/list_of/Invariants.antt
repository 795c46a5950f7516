use Rattle.std.proofs.Common.{◌≡◌, take, map}
use Rattle.gt_script.specs.RunScripts.{list_of}
use Rattle.gt_script.proofs.run_script.RunScript.list_of.Given as goal

abbrev pub invariant-tasks : goal.invariant-tasks
invariant-tasks l = map (λ t. t.now) l.list.items ≡ list_of (take l.task-index l.task-items) l.dom
