use Rattle.gt_policy_list.proofs.ListedLemmas.{parsed, parsed_no}
use Rattle.gt_policy_list.proofs.listing.list_text.Goals as goal

pub returns-in-Ok : goal.returns-in-Ok
returns-in-Ok g c = parsed _ c.in-Ok.ensures.ok.0 _ _ _ _ c.in-Ok.ensures.ok.1 c.in-Ok.ensures.ok.2 c.write_policy.ensures

pub returns-in-Err : goal.returns-in-Err
returns-in-Err g c = parsed_no c.in-Err.error.line c.in-Err.error.kind _ _ _ c.from.ensures c.in-Err.ensures.fault
