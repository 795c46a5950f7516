use Rattle.std.proofs.Common.{◌≡◌, ℕ, All, Some, slice_get}
use Rattle.gt_script.specs.RunContents.{run_contents}
use Rattle.gt_explore_replay.specs.Orders.{MayGive}
use Rattle.gt_explore_search.specs.declared.exploring.FoundText.{FoundText}
use Rattle.gt_explore_answers.specs.Texts.{AreAscending, texts_of_orders}
use Rattle.gt_explore.proofs.Added.{IsThere}
use Rattle.gt_explore.proofs.texts.distinct.Given as goal

-- the texts of the orders so far are there
abbrev pub invariant-orders : goal.invariant-orders
invariant-orders l = record {
  possible : All (MayGive (run_contents l.script)) (texts_of_orders l.texts.items);
  whole : (at : ℕ) (o : FoundText) → slice_get l.fn.orders.items at ≡ Some o → IsThere o l.texts.items l.order-iterator.rest.items;
  ascending : AreAscending (texts_of_orders l.texts.items);
}
