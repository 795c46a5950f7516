-- The texts of a script, each with the precedences that hold in an order that gives it.
use Rattle.std.specs.Prelude.{◌≡◌, ◌↔◌, ℕ, Bool, true, List, [], ◌∷◌, All, Some, slice_get}
use Rattle.gt_explore_replay.specs.Orders.{Happening, IsOrderOf}
use Rattle.gt_precedence.specs.Precedence.{Precedes}
use Rattle.gt_script.specs.RunContents.{RunContents}
use Rattle.gt_script.specs.declared.precedence.Precedence.{Precedence}
use Rattle.gt_explore_ordered.specs.declared.ordered.OrderedFound.{OrderedFound}
use Rattle.gt_explore_ordered.specs.declared.ordered.OrderedText.{OrderedText}

-- exactly those of these precedences hold in an order for which this is true
abbrev pub HoldsExactly : RunContents → List Happening → List Precedence → List Bool → Type 0
HoldsExactly c hs [] [] = Unit {0}
HoldsExactly c hs (lines ∷ all) (b ∷ held) = ((b ≡ true) ↔ Precedes c lines hs) × HoldsExactly c hs all held
HoldsExactly c hs [] (b ∷ held) = ⊥
HoldsExactly c hs (lines ∷ all) [] = ⊥

-- the text is that of an order in which exactly the precedences hold that are listed with it
abbrev pub IsOrderedText : RunContents → List Precedence → OrderedText → Type 0
IsOrderedText c all t = (hs : List Happening) × IsOrderOf c hs t.text.items × HoldsExactly c hs all t.held.items

-- among these texts is that of this order, with exactly the precedences that hold in it
abbrev pub HasOrder : RunContents → List Precedence → List OrderedText → List Happening → List ℕ → Type 0
HasOrder c all texts hs text =
    (at : ℕ) × (t : OrderedText) × (slice_get texts at ≡ Some t) × (t.text.items ≡ text)
    × HoldsExactly c hs all t.held.items

-- each text is that of such an order: if the search is over, each order of the script has its text, with the
-- precedences that hold in it
pub record HasEachOrdered (c : RunContents) (all : List Precedence) (found : OrderedFound) : Type 0 where
  pub possible : All (IsOrderedText c all) found.texts.items
  pub whole : found.whole ≡ true → (hs : List Happening) (text : List ℕ) → IsOrderOf c hs text
      → HasOrder c all found.texts.items hs text
