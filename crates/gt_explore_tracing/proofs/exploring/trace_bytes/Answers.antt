use Rattle.gt_script.specs.RunContents.{run_contents}
use Rattle.gt_script.specs.RunScripts.{ReadsAsRun}
use Rattle.gt_explore_tracing.proofs.Written.{traced_nothing, traced_script}
use Rattle.gt_explore_tracing.proofs.exploring.trace_bytes.Goals as goal

pub returns-in-Ok : goal.returns-in-Ok
returns-in-Ok g c = λ all e. traced_script c.args.asked.now (ReadsAsRun all) (run_contents c.in-Ok.script) c.trace_script.result _ _ (c.in-Ok.ensures.beginning all e) c.trace_script.ensures

pub returns-in-Err : goal.returns-in-Err
returns-in-Err g c = λ all e. traced_nothing c.args.asked.now (ReadsAsRun all) c.in-Err.error _ _ (c.in-Err.ensures.beginning all e) c.from.ensures
