use Rattle.std.proofs.Common.{◌≡◌, drop}
use Rattle.std.specs.List.{list_any}
use Rattle.gt_policy.specs.Granting.{is_self}
use Rattle.gt_policy_statements.proofs.granting.has_self.Given as goal

abbrev pub invariant-items : goal.invariant-items
invariant-items l = list_any is_self l.items ≡ list_any is_self (drop l.item-index l.items)
