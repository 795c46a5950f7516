use Rattle.std.proofs.Common.{arith}
use Rattle.gt_explore_races.proofs.Saying.{small-all, small-more}
use Rattle.gt_explore_races.proofs.searching.lines_are_small.Goals as goal

pub tasks-init : goal.tasks-init
tasks-init c = λ at t lt there. absurd (omega arith)

pub tasks-preserved : goal.tasks-preserved
tasks-preserved c = small-more c.args.tasks.now c.tasks.task-index c.task-item.result c.task-item.is c.line_is_small.ensures c.tasks.invariant

pub returns : goal.returns
returns c = small-all c.args.tasks.now c.tasks.task-index (omega (arith, c.tasks-test.false)) c.tasks.invariant
