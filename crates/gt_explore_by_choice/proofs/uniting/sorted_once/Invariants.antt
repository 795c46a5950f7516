use Rattle.std.proofs.Common.{◌≡◌, ℕ, All, Some, slice_get}
use Rattle.gt_explore.proofs.Added.{IsThere}
use Rattle.gt_explore_answers.specs.Texts.{AreAscending, IsTextAmong, texts_of_orders}
use Rattle.gt_explore_search.specs.declared.exploring.FoundText.{FoundText}
use Rattle.gt_explore_by_choice.proofs.uniting.sorted_once.Given as goal

-- the texts of the orders so far are there, and no others
abbrev pub invariant-orders : goal.invariant-orders
invariant-orders l = record {
  among : All (λ t. IsTextAmong t (texts_of_orders l.fn.orders.items)) (texts_of_orders l.texts.items);
  rest : (j : ℕ) (o : FoundText) → slice_get l.order-iterator.rest.items j ≡ Some o → (k : ℕ) × (slice_get l.fn.orders.items k ≡ Some o);
  whole : (at : ℕ) (o : FoundText) → slice_get l.fn.orders.items at ≡ Some o → IsThere o l.texts.items l.order-iterator.rest.items;
  ascending : AreAscending (texts_of_orders l.texts.items);
}
