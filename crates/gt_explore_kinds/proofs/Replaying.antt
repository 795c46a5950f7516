-- One order more was made again on the core.
use Rattle.std.proofs.Common.{◌≡◌, ◌∙◌, ap, sym, subst, ℕ, List, [], ◌∷◌, ◌++◌, All, map, append_assoc}
use Rattle.std.proofs.lemmas.List.{map-append}
use Rattle.std.proofs.lemmas.List.Elements.{All-push}
use Rattle.gt_explore_search.specs.declared.exploring.FoundText.{FoundText}
use Rattle.gt_explore_kinds.specs.Kinds.{order_text}

texts_pushed : (old : List FoundText) (o : FoundText) (new : List FoundText) → new ≡ old ++ o ∷ [] → map order_text new ≡ map order_text old ++ order_text o ∷ []
texts_pushed old o new is = ap (map order_text) is ∙ map-append order_text old (o ∷ [])

pub possible_pushed : (P : List ℕ → Type 0) (old : List FoundText) (o : FoundText) (new : List FoundText) → new ≡ old ++ o ∷ [] → All P (map order_text old) → P o.text.items → All P (map order_text new)
possible_pushed P old o new is all one = subst (All P) (sym (texts_pushed old o new is)) (All-push P (map order_text old) (order_text o) all one)

pub marks_pushed : (marks : List ℕ → List ℕ) (old : List FoundText) (made : FoundText) (new : List FoundText) → new ≡ old ++ made ∷ [] → (order : FoundText) (left later : List FoundText) (all : List (List ℕ)) → left ≡ order ∷ later → marks made.text.items ≡ order.text.items
    → map marks (map order_text old) ++ map order_text left ≡ all → map marks (map order_text new) ++ map order_text later ≡ all
marks_pushed marks old made new is order left later all step same before =
    ap (λ (l : List (List ℕ)). map marks l ++ map order_text later) (texts_pushed old made new is)
    ∙ ap (λ (l : List (List ℕ)). l ++ map order_text later) (map-append marks (map order_text old) (order_text made ∷ []))
    ∙ append_assoc (map marks (map order_text old)) (marks made.text.items ∷ []) (map order_text later)
    ∙ ap (λ (m : List ℕ). map marks (map order_text old) ++ m ∷ map order_text later) same
    ∙ ap (λ (l : List FoundText). map marks (map order_text old) ++ map order_text l) (sym step)
    ∙ before
