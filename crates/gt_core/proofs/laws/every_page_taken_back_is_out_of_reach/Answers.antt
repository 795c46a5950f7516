use Rattle.gt_core.proofs.TakenBack.{out-of-reach}
use Rattle.gt_core.proofs.laws.every_page_taken_back_is_out_of_reach.Goals as goal

pub returns : goal.returns
returns c s later before i t f legal back silent foreign = out-of-reach s later before i t f legal back silent foreign
