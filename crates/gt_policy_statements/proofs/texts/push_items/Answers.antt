use Rattle.std.proofs.Common.{◌++◌, ◌∙◌, ℕ, List, ap, codes}
use Rattle.std.proofs.lemmas.List.{append_assoc}
use Rattle.gt_policy_statements.specs.Texts.{item_text}
use Rattle.gt_policy_statements.proofs.GrantLemmas.{appended-more}
use Rattle.gt_policy_statements.proofs.texts.push_items.Goals as goal

pub items-preserved : goal.items-preserved
items-preserved c = let item = c.item-item.result in
    c.in_ok-push_item.ensures ∙ ap (λ (l : List ℕ). l ++ item_text item) c.in_ok-push_text.ensures.ok ∙ append_assoc c.items.out.items (codes " ") (item_text item)
    ∙ appended-more (λ i. codes " " ++ item_text i) c.args.items.now c.items.item-index item c.args.out.now.items c.items.out.items c.items-test.true c.item-item.is c.items.invariant
