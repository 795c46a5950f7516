use Rattle.gt_shared_table.proofs.Steps.{awaits, frees, locks, passes, raises, returns as gives_back, steps}
use Rattle.gt_shared_table.proofs.laws.every_step_is_allowed.Goals as goal

pub returns-clause-words : goal.returns-clause-words
returns-clause-words c = steps

pub returns-clause-locks : goal.returns-clause-locks
returns-clause-locks c = locks

pub returns-clause-frees : goal.returns-clause-frees
returns-clause-frees c = frees

pub returns-clause-returned : goal.returns-clause-returned
returns-clause-returned c = gives_back

pub returns-clause-raises : goal.returns-clause-raises
returns-clause-raises c = raises

pub returns-clause-passes : goal.returns-clause-passes
returns-clause-passes c = passes

pub returns-clause-awaits : goal.returns-clause-awaits
returns-clause-awaits c = awaits
