use Rattle.std.proofs.Common.{length}
use Rattle.gt_policy_questions.proofs.flows.steps.+push_path.Given as goal

abbrev pub decreases-push_path : goal.decreases-push_path
decreases-push_path g l = length l.path.now
