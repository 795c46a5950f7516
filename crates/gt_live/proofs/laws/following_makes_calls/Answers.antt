use Rattle.gt_live.proofs.Following.{by-calls}
use Rattle.gt_live.proofs.laws.following_makes_calls.Goals as goal

pub returns : goal.returns
returns g c = by-calls _ _
