use Rattle.gt_linearization.proofs.Seeing.{core-sees}
use Rattle.gt_linearization.proofs.laws.core_sees_the_words.Goals as goal

pub returns : goal.returns
returns c = core-sees
