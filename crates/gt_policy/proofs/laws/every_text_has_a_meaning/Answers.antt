use Rattle.gt_policy.proofs.LawLemmas.{says_some}
use Rattle.gt_policy.proofs.laws.every_text_has_a_meaning.Goals as goal

pub returns : goal.returns
returns c = says_some
