use Rattle.std.proofs.Common.{◌≡◌, drop}
use Rattle.std.specs.Prelude.{find}
use Rattle.gt_policy_statements.specs.Granting.{puts_in}
use Rattle.gt_policy_statements.proofs.texts.push_attribute.Given as goal

abbrev pub invariant-items : goal.invariant-items
invariant-items l = record {
  same : l.out.items ≡ l.fn.out.items;
  first : find (λ i. puts_in l.names i) l.items ≡ find (λ i. puts_in l.names i) (drop l.item-index l.items);
}
