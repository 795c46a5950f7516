use Rattle.gt_policy_list.proofs.ListedLemmas.{listed_text, listed_no}
use Rattle.gt_policy_list.proofs.listing.list_bytes.Goals as goal

pub returns-in-Ok : goal.returns-in-Ok
returns-in-Ok g c = λ all e. listed_text all _ _ _ _ _ e c.in-Ok.ensures.text c.in-Ok.ensures.few c.in-Ok.ensures.utf8 c.list_text.ensures

pub returns-in-Err : goal.returns-in-Err
returns-in-Err g c = λ all e. listed_no all _ c.in-Err.fault _ e c.in-Err.ensures.fault
