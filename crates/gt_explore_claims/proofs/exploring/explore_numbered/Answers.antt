use Rattle.gt_script.specs.RunContents.{run_contents}
use Rattle.gt_explore_claims.proofs.Explored.{claims_nothing, claims_script}
use Rattle.gt_explore_claims.proofs.exploring.explore_numbered.Goals as goal

pub returns-in-Ok : goal.returns-in-Ok
returns-in-Ok g c = λ all e are. claims_script c.args.asked.now all (run_contents c.in-Ok.script) _ c.explore_script.result _ _ (c.in-Ok.ensures.beginning all e) are c.explore_script.ensures

pub returns-in-Err : goal.returns-in-Err
returns-in-Err g c = λ all e are. claims_nothing c.args.asked.now all c.in-Err.error _ _ (c.in-Err.ensures.beginning all e) c.from.ensures
