-- Texts of orders.
use Rattle.std.specs.Prelude.{◌≡◌, ◌≢◌, ℕ, List, [], ◌∷◌, All, map, Some, slice_get}
use Rattle.std.specs.Cmp.Lexicographic.{slice_cmp}
use Rattle.std.specs.Ordering.{nat_cmp}
use Rattle.std.specs.declared.cmp.Ordering.{Ordering}
use Rattle.std.specs.declared.cmp.Ordering.TheVariants.{Less}
use Rattle.gt_explore_search.specs.declared.exploring.FoundText.{FoundText}

-- the texts of these orders
abbrev pub texts_of_orders : List FoundText → List (List ℕ)
texts_of_orders orders = map (λ o. o.text.items) orders

-- the text is one of these
abbrev pub IsTextAmong : List ℕ → List (List ℕ) → Type 0
IsTextAmong text texts = (at : ℕ) × (slice_get texts at ≡ Some text)

-- it differs from each of these
abbrev pub IsApart : List ℕ → List (List ℕ) → Type 0
IsApart text texts = All (λ other. other ≢ text) texts

-- no two of them are the same
abbrev pub AreDifferentTexts : List (List ℕ) → Type 0
AreDifferentTexts [] = Unit {0}
AreDifferentTexts (text ∷ texts) = IsApart text texts × AreDifferentTexts texts

-- two texts by the order of their bytes
abbrev pub compared : List ℕ → List ℕ → Ordering
compared one other = slice_cmp nat_cmp one other

-- each text comes before the next one
abbrev pub AreAscending : List (List ℕ) → Type 0
AreAscending [] = Unit {0}
AreAscending (text ∷ []) = Unit {0}
AreAscending (text ∷ next ∷ texts) = (compared text next ≡ Less) × AreAscending (next ∷ texts)
