use Rattle.gt_types.proofs.Faults.{none-yet, grows}
use Rattle.gt_types.proofs.laws.every_faultless_list_grows_by_one.Goals as goal

pub returns-clause-none : goal.returns-clause-none
returns-clause-none c = none-yet

pub returns-clause-more : goal.returns-clause-more
returns-clause-more c = grows
