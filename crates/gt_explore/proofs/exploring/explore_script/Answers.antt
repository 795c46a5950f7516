use Rattle.std.proofs.lemmas.Result.{err_from_is_err_and}
use Rattle.gt_script.specs.RunContents.{run_contents}
use Rattle.gt_explore.proofs.Explored.{explored_fault, explored_unmade}
use Rattle.gt_explore.proofs.exploring.explore_script.Goals as goal

pub returns-in_err-conditions : goal.returns-in_err-conditions
returns-in_err-conditions g c =
    let p = err_from_is_err_and c.from_residual.result c.from_residual.ensures.1 in
    rw p.1 (explored_fault (run_contents c.args.script.now) c.args.asked.now _ p.0 _ c.in_err-conditions.ensures.fault p.2)

pub returns-in-Err : goal.returns-in-Err
returns-in-Err g c = explored_unmade (run_contents c.args.script.now) c.args.asked.now c.in-Err.fault _ c.in-Err.ensures
