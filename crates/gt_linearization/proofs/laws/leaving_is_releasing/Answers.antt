use Rattle.gt_linearization.proofs.Leaving.{leaving}
use Rattle.gt_linearization.proofs.laws.leaving_is_releasing.Goals as goal

pub returns : goal.returns
returns c = leaving
