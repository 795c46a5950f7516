use Rattle.gt_script.proofs.StandingLemmas.{block-fault-told, fault-told}
use Rattle.gt_script.proofs.laws.every_fault_is_reported.Goals as goal

pub returns-clause-script : goal.returns-clause-script
returns-clause-script c = fault-told

pub returns-clause-block : goal.returns-clause-block
returns-clause-block c = block-fault-told
