use Rattle.gt_script.specs.RunContents.{run_contents}
use Rattle.gt_script.specs.RunScripts.{ReadsAsRun}
use Rattle.gt_explore_racing.proofs.Explored.{explored_nothing, explored_script}
use Rattle.gt_explore_racing.proofs.exploring.explore_races.Goals as goal

pub returns-in-Ok : goal.returns-in-Ok
returns-in-Ok g c = λ all e. explored_script c.args.asked.now (ReadsAsRun all) (run_contents c.in-Ok.script) c.explore_parsed.result _ _ (c.in-Ok.ensures.beginning all e) c.explore_parsed.ensures

pub returns-in-Err : goal.returns-in-Err
returns-in-Err g c = λ all e. explored_nothing c.args.asked.now (ReadsAsRun all) c.in-Err.error _ _ (c.in-Err.ensures.beginning all e) c.from.ensures
