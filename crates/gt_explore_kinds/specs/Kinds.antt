-- Kinds of texts: which of some formulas a text satisfies.
use Rattle.std.specs.Prelude.{◌≡◌, ℕ, true, List, All, map, Some, slice_get}
use Rattle.std.specs.Global.{Vec}
use Rattle.gt_explore_replay.specs.Orders.{MayGive}
use Rattle.gt_explore_search.specs.declared.exploring.FoundText.{FoundText}
use Rattle.gt_explore_verdict.specs.Formulas.{Formula, formula_asked, satisfies}
use Rattle.gt_explore_verdict.specs.declared.operations.Operation.{Operation}
use Rattle.gt_script.specs.RunContents.{RunContents}
use Rattle.gt_explore_kinds.specs.declared.kinds.KindsFound.{KindsFound}

-- the formulas of expressions
abbrev pub formulas_asked : List (Vec Operation) → List Formula
formulas_asked expressions = map (λ e. formula_asked e.items) expressions

abbrev pub order_text : FoundText → List ℕ
order_text o = o.text.items

-- both texts satisfy the same ones of these formulas
abbrev pub AreOfOneKind : List Formula → List ℕ → List ℕ → Type 0
AreOfOneKind formulas one other = All (λ f. satisfies f one ≡ satisfies f other) formulas

-- texts that a script may give: if the search is over, one of each kind
pub record HasEachKind (c : RunContents) (formulas : List Formula) (found : KindsFound) : Type 0 where
  pub possible : All (MayGive c) (map order_text found.texts.items)
  pub whole : found.whole ≡ true → (text : List ℕ) → MayGive c text
      → (at : ℕ) × (one : List ℕ) × (slice_get (map order_text found.texts.items) at ≡ Some one)
      × AreOfOneKind formulas text one
