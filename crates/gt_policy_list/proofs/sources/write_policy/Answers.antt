use Rattle.gt_policy_list.proofs.ListedLemmas.{writes}
use Rattle.gt_policy_list.proofs.sources.write_policy.Goals as goal

pub returns-in-Ok-by_name : goal.returns-in-Ok-by_name
returns-in-Ok-by_name g c =
    let whole = rw c.as_slice.ensures.value at c.write_sources.ensures.whole in
    let begun = rw c.as_slice.ensures.value at c.write_sources.ensures.beginning in
    writes _ _ _ _ _ _ c.in-Ok.ensures c.in-Ok-by_name.ensures whole begun c.write_sources.ensures.errors
