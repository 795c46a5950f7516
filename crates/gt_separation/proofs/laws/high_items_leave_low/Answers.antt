use Rattle.gt_separation.proofs.Apart.{high-leaves-low}
use Rattle.gt_separation.proofs.laws.high_items_leave_low.Goals as goal

pub returns : goal.returns
returns c = high-leaves-low
