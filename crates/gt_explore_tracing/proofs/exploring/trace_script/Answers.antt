use Rattle.gt_script.specs.RunContents.{run_contents}
use Rattle.gt_explore_tracing.proofs.Written.{traced_unmade}
use Rattle.gt_explore_tracing.proofs.exploring.trace_script.Goals as goal

pub returns-in-Err : goal.returns-in-Err
returns-in-Err g c = traced_unmade (run_contents c.args.script.now) c.args.asked.now c.in-Err.fault _ c.in-Err.ensures
