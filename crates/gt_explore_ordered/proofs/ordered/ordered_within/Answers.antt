use Rattle.std.proofs.Common.{All, List, Option, subst}
use Rattle.std.proofs.lemmas.List.Elements.{All-weaker}
use Rattle.gt_explore_search.specs.Exploring.{AllTextsFound}
use Rattle.gt_script.specs.RunContents.{run_contents}
use Rattle.gt_explore_ordered.specs.Holding.{HoldsAs}
use Rattle.gt_explore_ordered.specs.Ordered.{IsOrderedText}
use Rattle.gt_explore_ordered.specs.Places.{task_lists}
use Rattle.gt_explore_ordered.specs.Spaces.{ordered_ways}
use Rattle.gt_explore_ordered.specs.declared.places.CallOrder.{CallOrder}
use Rattle.gt_explore_ordered.proofs.EachFound.{each-ordered, ordered-text}
use Rattle.gt_explore_ordered.proofs.ordered.ordered_within.Goals as goal

pub returns : goal.returns
returns g c =
    let d = run_contents c.args.script.now in
    let scene = c.in_ok-scene.scene in
    let is = c.in_ok-scene.ensures c.requires.orderly.numbered in
    let orders = c.in_ok-orders.orders.items in
    let lists = task_lists scene.lists.items in
    let texts = c.in_ok-texts.texts.items in
    let holds : All (HoldsAs d orders) texts = subst (λ (os : List (Option CallOrder)). All (HoldsAs d os) texts) c.as_slice-2.ensures.value c.in_ok-texts.ensures.possible in
    record {
      possible = All-weaker (HoldsAs d orders) (IsOrderedText d c.args.all.now) (ordered-text d c.requires.orderly lists is.lists c.args.all.now orders c.in_ok-orders.ensures) texts holds;
      whole = λ over hs text order.
          each-ordered d c.requires.orderly lists is.lists c.args.all.now orders c.in_ok-orders.ensures scene c.in_ok-partial.partial.found texts is c.every_order_has_turns.ensures
          (subst (λ (os : List (Option CallOrder)). AllTextsFound (ordered_ways scene os) c.in_ok-partial.partial.found) c.as_slice.ensures.value (c.in_ok-partial.ensures over)) holds c.in_ok-texts.ensures.noted hs text order;
    }
