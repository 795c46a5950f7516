use Rattle.std.proofs.Common.{◌≡◌, drop}
use Rattle.std.specs.List.{list_any}
use Rattle.gt_policy_statements.specs.Granting.{takes_out}
use Rattle.gt_policy_statements.proofs.granting.some_takes_out.Given as goal

abbrev pub invariant-items : goal.invariant-items
invariant-items l = list_any (λ i. takes_out l.names i) l.items ≡ list_any (λ i. takes_out l.names i) (drop l.item-index l.items)
