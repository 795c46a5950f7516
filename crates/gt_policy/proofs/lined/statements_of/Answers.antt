use Rattle.std.proofs.Common.{arith}
use Rattle.gt_policy.proofs.WholeLemmas.{says_long}
use Rattle.gt_policy.proofs.lined.statements_of.Goals as goal

pub returns-then-text-gt-LONGEST_TEXT-clause-fault : goal.returns-then-text-gt-LONGEST_TEXT-clause-fault
returns-then-text-gt-LONGEST_TEXT-clause-fault c = λ f e. says_long c.args.text.now f (omega arith) e
