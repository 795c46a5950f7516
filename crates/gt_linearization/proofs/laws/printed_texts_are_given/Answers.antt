use Rattle.gt_linearization.proofs.Served.{printed-given}
use Rattle.gt_linearization.proofs.laws.printed_texts_are_given.Goals as goal

pub returns : goal.returns
returns c = printed-given
