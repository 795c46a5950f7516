use Rattle.std.proofs.Common.{◌≡◌, drop}
use Rattle.std.specs.List.{list_any}
use Rattle.gt_policy_statements.specs.Texts.{names_type}
use Rattle.gt_policy_statements.proofs.texts.is_named.Given as goal

abbrev pub invariant-items : goal.invariant-items
invariant-items l = list_any (λ i. names_type l.name i) l.items ≡ list_any (λ i. names_type l.name i) (drop l.item-index l.items)
