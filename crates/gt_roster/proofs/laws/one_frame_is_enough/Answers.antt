use Rattle.gt_roster.proofs.OneFrame.{one_frame}
use Rattle.gt_roster.proofs.laws.one_frame_is_enough.Goals as goal

pub returns : goal.returns
returns c = one_frame
