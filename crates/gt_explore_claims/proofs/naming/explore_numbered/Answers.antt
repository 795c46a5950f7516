use Rattle.gt_explore_claims.proofs.Explored.{named_err, named_ok}
use Rattle.gt_explore_claims.proofs.naming.explore_numbered.Goals as goal

pub returns-in-Ok : goal.returns-in-Ok
returns-in-Ok g c = λ all e first are. named_ok first c.args.asked.now all _ _ are c.in-Ok.verdict (c.in-Ok.ensures all e)

pub returns-in-Err : goal.returns-in-Err
returns-in-Err g c = λ all e first are. named_err first c.args.asked.now all _ _ are c.in-Err.fault (c.in-Err.ensures all e)
