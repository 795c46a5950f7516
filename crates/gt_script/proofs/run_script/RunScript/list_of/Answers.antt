use Rattle.std.proofs.Common.{refl}
use Rattle.gt_script.proofs.RunLemmas.{list-own, list-other}
use Rattle.gt_script.proofs.run_script.RunScript.list_of.Goals.{then-eq+in_ok-push, else-eq}
use Rattle.gt_script.proofs.run_script.RunScript.list_of.Goals as goal

pub tasks-preserved : goal.tasks-preserved
tasks-preserved c = elim c.if-eq.branch [
  | then-eq+in_ok-push w ↦
      rw w.list-is (list-own c.as_slice-task-items.result.now c.args.dom c.tasks.task-index c.task-item.result c.tasks.list.items w.push.new.self.items _ c.eq.result c.tasks-test.true c.task-item.is c.eq.ensures w.if-eq.true c.tasks.invariant
      w.in_ok-push.ensures.items refl)
  | else-eq w ↦
      rw w.list-is (list-other c.as_slice-task-items.result.now c.args.dom c.tasks.task-index c.task-item.result c.tasks.list.items c.eq.result c.tasks-test.true c.task-item.is c.eq.ensures w.if-eq.false c.tasks.invariant)
]
