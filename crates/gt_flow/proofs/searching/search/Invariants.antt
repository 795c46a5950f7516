use Rattle.std.proofs.Common.{◌+◌, ◌-◌, length}
use Rattle.gt_flow.specs.Accesses.{is_among}
use Rattle.gt_flow.proofs.Growing.{IsUnder}
use Rattle.gt_flow.proofs.searching.search.Given as goal

abbrev pub invariant-reached : goal.invariant-reached
invariant-reached g l = IsUnder (g.P.Allows.may l.policy) (is_among l.trusted) l.fn.source l.count l.at l.reached.items l.left.items

abbrev pub decreases-reached : goal.decreases-reached
decreases-reached g l = length l.left.items + (length l.reached.items - l.at)
