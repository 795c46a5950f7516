use Rattle.std.proofs.Common.{◌∙◌}
use Rattle.gt_explore_states.proofs.space.MomentSpaceTransitionSystem.is_finished.Goals as goal

pub returns-then-holds : goal.returns-then-holds
returns-then-holds c = λ may. let (p, shows, holds) = may in c.is_moment-holds.ensures p shows ∙ holds

pub returns-else-holds : goal.returns-else-holds
returns-else-holds c = λ may. let (p, shows, holds) = may in c.is_moment-holds.ensures p shows ∙ holds
