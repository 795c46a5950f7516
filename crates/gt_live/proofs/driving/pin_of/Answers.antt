use Rattle.std.proofs.Common.{refl}
use Rattle.gt_live.proofs.driving.pin_of.Goals as goal

pub returns : goal.returns
returns c = refl
