use Rattle.gt_linearization.proofs.Served.{given-printed}
use Rattle.gt_linearization.proofs.laws.given_texts_are_printed.Goals as goal

pub returns : goal.returns
returns c = given-printed
