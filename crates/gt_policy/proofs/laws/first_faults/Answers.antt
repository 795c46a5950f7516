use Rattle.gt_policy.proofs.LawLemmas.{says_first_fault, broken_says, undeclared_says}
use Rattle.gt_policy.proofs.laws.first_faults.Goals as goal

pub returns-clause-faulty : goal.returns-clause-faulty
returns-clause-faulty c = λ text f h. says_first_fault text f h

pub returns-clause-broken : goal.returns-clause-broken
returns-clause-broken c = broken_says

pub returns-clause-undeclared : goal.returns-clause-undeclared
returns-clause-undeclared c = undeclared_says
