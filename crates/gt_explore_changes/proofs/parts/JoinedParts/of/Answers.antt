use Rattle.gt_explore_changes.specs.Parts.{joined_in}
use Rattle.gt_explore_changes.proofs.Joined.{with-more}
use Rattle.gt_explore_changes.proofs.parts.JoinedParts.of.Goals as goal

pub parts-preserved : goal.parts-preserved
parts-preserved c = with-more (joined_in c.parts.joined) (joined_in c.put.new.self) c.parts.yielded c.in-Some.part c.parts.invariant c.in_ok-put.ensures
