use Rattle.gt_attached.proofs.Comparing.{no-difference}
use Rattle.gt_attached.proofs.renewing.domains_without_a_difference_have_the_same_entries.Goals as goal

pub returns : goal.returns
returns c = no-difference
