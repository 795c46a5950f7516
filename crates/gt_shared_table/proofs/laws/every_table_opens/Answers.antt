use Rattle.gt_shared_table.proofs.Opens.{opens_all}
use Rattle.gt_shared_table.proofs.laws.every_table_opens.Goals as goal

pub returns : goal.returns
returns c = opens_all
