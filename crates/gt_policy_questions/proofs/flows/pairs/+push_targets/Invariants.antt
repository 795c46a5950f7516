use Rattle.std.proofs.Common.{length}
use Rattle.gt_policy_questions.proofs.flows.pairs.+push_targets.Given as goal

abbrev pub decreases-push_targets : goal.decreases-push_targets
decreases-push_targets g l = length l.targets.now
