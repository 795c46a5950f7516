use Rattle.gt_types.proofs.Faults.{one-fault}
use Rattle.gt_types.proofs.laws.every_first_fault_is_one.Goals as goal

pub returns : goal.returns
returns c = one-fault
