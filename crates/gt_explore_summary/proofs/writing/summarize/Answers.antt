use Rattle.gt_script.specs.RunContents.{run_contents}
use Rattle.gt_script.specs.RunScripts.{ReadsAsRun}
use Rattle.gt_explore_summary.proofs.Summed.{summed_nothing, summed_script}
use Rattle.gt_explore_summary.proofs.writing.summarize.Goals as goal

pub returns-in-Ok : goal.returns-in-Ok
returns-in-Ok g c = λ all e. summed_script c.args.asked.now (ReadsAsRun all) (run_contents c.in-Ok.script) c.summarize_script.result _ _ (c.in-Ok.ensures.beginning all e) c.summarize_script.ensures

pub returns-in-Err : goal.returns-in-Err
returns-in-Err g c = λ all e. summed_nothing c.args.asked.now (ReadsAsRun all) c.in-Err.error _ _ (c.in-Err.ensures.beginning all e) c.from.ensures
