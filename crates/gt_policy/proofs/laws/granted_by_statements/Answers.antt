use Rattle.gt_policy.proofs.GrantingLemmas.{allowed_granted}
use Rattle.gt_policy.proofs.PermLemmas.{lists_words}
use Rattle.gt_policy.proofs.laws.granted_by_statements.Goals as goal

pub returns-clause-allowed : goal.returns-clause-allowed
returns-clause-allowed c = allowed_granted c.the_permissions.ensures.named

pub returns-clause-listed : goal.returns-clause-listed
returns-clause-listed c = lists_words
