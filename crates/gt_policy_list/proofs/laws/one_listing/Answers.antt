use Rattle.gt_policy_list.proofs.OrderLemmas.{one_order}
use Rattle.gt_policy_list.proofs.laws.one_listing.Goals as goal

pub returns : goal.returns
returns c = λ bytes one other m says a b. one_order m one other (c.written_texts.ensures.accepted bytes m says).0 (c.written_texts.ensures.accepted bytes m says).1 (c.written_texts.ensures.accepted bytes m says).3 a b
