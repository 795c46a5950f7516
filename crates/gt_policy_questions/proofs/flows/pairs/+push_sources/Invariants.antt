use Rattle.std.proofs.Common.{length}
use Rattle.gt_policy_questions.proofs.flows.pairs.+push_sources.Given as goal

abbrev pub decreases-push_sources : goal.decreases-push_sources
decreases-push_sources g l = length l.sources.now
