-- Bytes that stay a text.
use Rattle.std.proofs.Common.{◌≡◌, List, [], ◌∷◌, ℕ, zero, suc, ◌++◌, subst, sym, arith}
use Rattle.std.specs.Prelude.{slice_get}
use Rattle.std.specs.Option.{option_map_or}
use Rattle.std.specs.Str.{IsUtf8}
use Rattle.std.proofs.lemmas.Str.{IsUtf8-append, IsUtf8-nil}
use Rattle.std.proofs.lemmas.List.Elements.{All-tail}
use Rattle.gt_types.specs.declared.TypeId.{TypeId}
use Rattle.gt_text.specs.Printing.{type_text}
use Rattle.gt_text.specs.Texts.{StaysText, AreTexts}

-- a text after a text is a text
pub text_appended : (new old text : List ℕ) → new ≡ old ++ text → IsUtf8 text → StaysText old new
text_appended new old text is whole before = subst IsUtf8 (sym is) (IsUtf8-append old text before whole)

-- a type's name is a text if all names are
pub type_is_text : {N : Type 0} (bytes : N → List ℕ) (names : List N) (t : TypeId) → AreTexts bytes names → IsUtf8 (type_text bytes names t)
type_is_text bytes names t all = at_place bytes names t.0 all
  where
    at_place : {N : Type 0} (bytes : N → List ℕ) (names : List N) (i : ℕ) → AreTexts bytes names → IsUtf8 (option_map_or bytes (slice_get names i) [])
    at_place bytes [] i all = IsUtf8-nil
    at_place bytes (n ∷ ns) zero all = all 0 n (omega arith)
    at_place bytes (n ∷ ns) (suc i) all = at_place bytes ns i (All-tail (λ name. IsUtf8 (bytes name)) n ns all)
