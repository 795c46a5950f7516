use Rattle.std.proofs.Common.{◌≡◌, drop}
use Rattle.std.specs.List.{list_any}
use Rattle.gt_policy_statements.specs.Granting.{puts_in}
use Rattle.gt_policy_statements.proofs.granting.some_puts_in.Given as goal

abbrev pub invariant-items : goal.invariant-items
invariant-items l = list_any (λ i. puts_in l.names i) l.items ≡ list_any (λ i. puts_in l.names i) (drop l.item-index l.items)
