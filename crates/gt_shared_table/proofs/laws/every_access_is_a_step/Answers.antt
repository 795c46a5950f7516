use Rattle.gt_shared_table.proofs.OneStep.{history_goes_on, holds_access}
use Rattle.gt_shared_table.proofs.laws.every_access_is_a_step.Goals as goal

pub returns : goal.returns
returns c k z holds id o at here x aside = (holds_access k z holds id o at here x aside, history_goes_on k z holds id o at here x aside)
