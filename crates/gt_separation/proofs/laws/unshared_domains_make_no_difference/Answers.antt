use Rattle.gt_separation.proofs.LowCalls.{unshared-domains-make-no-difference}
use Rattle.gt_separation.proofs.laws.unshared_domains_make_no_difference.Goals as goal

pub returns : goal.returns
returns c = unshared-domains-make-no-difference
