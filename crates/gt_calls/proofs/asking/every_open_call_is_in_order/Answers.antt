use Rattle.gt_calls.proofs.Words.{opens}
use Rattle.gt_calls.proofs.asking.every_open_call_is_in_order.Goals as goal

pub returns : goal.returns
returns c = opens
