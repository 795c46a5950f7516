use Rattle.gt_separation.proofs.SameParts.{high-calls-make-no-difference}
use Rattle.gt_separation.proofs.laws.high_calls_make_no_difference.Goals as goal

pub returns : goal.returns
returns c = high-calls-make-no-difference
