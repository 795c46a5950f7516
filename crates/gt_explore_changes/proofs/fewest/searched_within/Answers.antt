use Rattle.std.proofs.Common.{List, subst, false, ◌≡◌}
use Rattle.std.specs.List.{list_any}
use Rattle.std.specs.Str.{bytes_eq}
use Rattle.gt_explore_search.specs.declared.exploring.FoundText.{FoundText}
use Rattle.gt_script.specs.RunContents.{run_contents}
use Rattle.gt_explore_changes.proofs.Orders.{none-fewer}
use Rattle.gt_explore_changes.proofs.fewest.searched_within.Goals as goal

pub returns-then-partial : goal.returns-then-partial
returns-then-partial g c =
    none-fewer c.in_ok-scene.scene c.args.most (run_contents c.args.script.now) c.in_ok-partial.partial.found c.args.text.now (c.in_ok-scene.ensures c.requires.numbered) c.every_order_has_turns.ensures (c.in_ok-partial.ensures c.if-partial.true)
    (subst (λ (orders : List FoundText). list_any (λ o. bytes_eq o.text.items c.args.text.now) orders ≡ false) c.as_slice.ensures.value (c.turns_giving.ensures c.in-None.is))
