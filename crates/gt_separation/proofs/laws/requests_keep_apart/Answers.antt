use Rattle.gt_separation.proofs.LowCalls.{requests-keep-apart}
use Rattle.gt_separation.proofs.laws.requests_keep_apart.Goals as goal

pub returns : goal.returns
returns c = requests-keep-apart
