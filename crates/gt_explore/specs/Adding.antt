-- Orders whose texts are in the order of their bytes, with one more order.
use Rattle.std.specs.Prelude.{◌≡◌, ◌⊎◌, ◌++◌, ℕ, List, [], ◌∷◌}
use Rattle.std.specs.declared.cmp.Ordering.{Ordering}
use Rattle.std.specs.declared.cmp.Ordering.TheVariants.{Less}
use Rattle.gt_explore_search.specs.declared.exploring.FoundText.{FoundText}
use Rattle.gt_explore_answers.specs.Texts.{AreAscending, IsTextAmong, compared, texts_of_orders}

-- x was added at the end, or not at all
abbrev pub IsAdded : {X : Type 0} → List X → X → List X → Type 0
IsAdded old x new = (new ≡ old) ⊎ (new ≡ old ++ x ∷ [])

-- the last of these texts, compared with another; if there is none, the result is `Less`
abbrev pub last_compared : List (List ℕ) → List ℕ → Ordering
last_compared [] text = Less
last_compared (last ∷ []) text = compared last text
last_compared (first ∷ next ∷ texts) text = last_compared (next ∷ texts) text

-- an order was added, unless its text was there
pub record AddsOrder (old : List FoundText) (order : FoundText) (new : List FoundText) : Type 0 where
  pub added : IsAdded old order new
  pub there : IsTextAmong order.text.items (texts_of_orders new)
  pub ascending : AreAscending (texts_of_orders old) → AreAscending (texts_of_orders new)
