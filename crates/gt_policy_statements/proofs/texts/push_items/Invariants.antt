use Rattle.std.proofs.Common.{◌≡◌, ◌++◌, take}
use Rattle.gt_policy_statements.specs.Texts.{items_text}
use Rattle.gt_policy_statements.proofs.texts.push_items.Given as goal

abbrev pub invariant-items : goal.invariant-items
invariant-items l = l.out.items ≡ l.initial.out.items ++ items_text (take l.item-index l.items)
