use Rattle.gt_explore_claims.proofs.Explored.{claims_unstated}
use Rattle.gt_explore_claims.proofs.exploring.explore_claims.Goals as goal

pub returns-in-Ok : goal.returns-in-Ok
returns-in-Ok g c = λ all e. c.explore_stated.ensures all e (rw c.as_slice.ensures.value c.in-Ok.ensures.ok)

pub returns-in-Err : goal.returns-in-Err
returns-in-Err g c = λ all e. claims_unstated c.args.asked.now all c.in-Err.fault _ c.in-Err.ensures.fault
