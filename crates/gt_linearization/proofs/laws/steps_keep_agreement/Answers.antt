use Rattle.gt_linearization.proofs.Stepping.{step-kept}
use Rattle.gt_linearization.proofs.laws.steps_keep_agreement.Goals as goal

pub returns : goal.returns
returns c = step-kept
