use Rattle.gt_script.specs.RunContents.{run_contents}
use Rattle.gt_explore_claims.proofs.Explored.{some_more}
use Rattle.gt_explore_claims.proofs.naming.decided_in.Goals as goal

pub returns-in-Ok : goal.returns-in-Ok
returns-in-Ok g c = λ all e.
    some_more c.decided.result _ _ (λ made is. (run_contents c.in-Ok.script, c.in-Ok.ensures.beginning all e, is)) c.decided.ensures
