use Rattle.gt_script.specs.RunContents.{run_contents}
use Rattle.gt_script.specs.RunScripts.{ReadsAsRun}
use Rattle.gt_run.proofs.RanLemmas.{ran_nothing, ran_script}
use Rattle.gt_run.proofs.reading.run_bytes.Goals as goal

pub returns-in-Ok : goal.returns-in-Ok
returns-in-Ok g c = λ all e. ran_script (g.G.Gate.refuses c.args.gate.now) _ (ReadsAsRun all) (run_contents c.in-Ok.script) c.run_script.result _ _ (c.in-Ok.ensures.beginning all e) c.run_script.ensures

pub returns-in-Err : goal.returns-in-Err
returns-in-Err g c = λ all e. ran_nothing (g.G.Gate.refuses c.args.gate.now) _ (ReadsAsRun all) c.in-Err.error _ _ (c.in-Err.ensures.beginning all e) c.from.ensures
