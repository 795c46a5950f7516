use Rattle.std.proofs.Common.{take}
use Rattle.gt_policy_check.specs.Earlier.{AddsAtAll}
use Rattle.gt_policy_check.proofs.earlier.push_at_all.Given as goal

abbrev pub invariant-places : goal.invariant-places
invariant-places l = AddsAtAll l.fn.lists.items (take l.place-index l.places) l.number l.lists.items
