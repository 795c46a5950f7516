use Rattle.std.proofs.Common.{inl, map}
use Rattle.gt_script.specs.RunContents.{run_contents}
use Rattle.gt_explore_verdict.specs.Formulas.{operation_asked}
use Rattle.gt_explore_by_choice.proofs.Explored.{on_expression}
use Rattle.gt_explore_by_choice.proofs.making.made_read.Goals as goal

pub returns-in-Ok : goal.returns-in-Ok
returns-in-Ok g c = λ source are.
    on_expression source c.args.asked.now.request (run_contents c.args.base.now) c.args.expression.now (map operation_asked c.in-Ok.conditions.items) c.made_on.result c.in-Ok.ensures.ok
    (rw c.as_slice.ensures.value at c.made_on.ensures source are)

pub returns-in-Err : goal.returns-in-Err
returns-in-Err g c = λ source are. inl (c.in-Err.fault, c.from.ensures, c.in-Err.ensures.fault)
