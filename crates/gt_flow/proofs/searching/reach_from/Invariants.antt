use Rattle.gt_flow.specs.Accesses.{flows}
use Rattle.gt_flow.specs.Paths.{hop_from}
use Rattle.gt_flow.proofs.Looking.{AreSplit}
use Rattle.gt_flow.proofs.searching.reach_from.Given as goal

abbrev pub invariant-left : goal.invariant-left
invariant-left g l =
    AreSplit (flows (g.P.Allows.may l.policy) l.is_trusted l.reach.id) (hop_from l.at l.reach) l.initial.reached.items l.left l.y-index
    l.reached.items l.rest.items
