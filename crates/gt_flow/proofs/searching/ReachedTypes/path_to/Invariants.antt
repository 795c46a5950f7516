use Rattle.gt_flow.proofs.Walking.{IsWalked}
use Rattle.gt_flow.proofs.searching.ReachedTypes.path_to.Given as goal

abbrev pub invariant-back : goal.invariant-back
invariant-back l = IsWalked l.self l.place l.at l.path.items

abbrev pub decreases-back : goal.decreases-back
decreases-back l = l.at
