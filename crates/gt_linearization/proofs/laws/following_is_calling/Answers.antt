use Rattle.gt_linearization.proofs.Followed.{following-made}
use Rattle.gt_linearization.proofs.laws.following_is_calling.Goals as goal

pub returns : goal.returns
returns g c = following-made _ _
