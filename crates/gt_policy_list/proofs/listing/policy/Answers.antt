use Rattle.std.proofs.Common.{ℕ, List}
use Rattle.gt_text.specs.Laws.{of_input}
use Rattle.gt_policy_list.specs.Writing.{Listed}
use Rattle.gt_policy_list.proofs.ListedLemmas.{listed_unread}
use Rattle.gt_policy_list.proofs.listing.policy.Goals as goal

pub returns-in-Ok-clause-text : goal.returns-in-Ok-clause-text
returns-in-Ok-clause-text g c =
    let listed = rw c.as_slice.ensures.value at c.list_bytes.ensures in
    of_input _ c.in-Ok.input.items (λ (input : List ℕ). Listed input _ _ c.list_bytes.result) c.in-Ok.ensures.limit c.in-Ok.ensures.text listed

pub returns-in-Err-clause-text : goal.returns-in-Err-clause-text
returns-in-Err-clause-text g c = listed_unread _ _ c.in-Err.fault _ c.from.ensures
