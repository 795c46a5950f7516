use Rattle.gt_shared_table.proofs.Names.{one_slot}
use Rattle.gt_shared_table.proofs.laws.every_frame_has_one_slot.Goals as goal

pub returns : goal.returns
returns c = one_slot
