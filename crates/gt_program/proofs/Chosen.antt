-- Whether a text that was read has choices.
use Rattle.std.proofs.Common.{◌≡◌, ◌∙◌, ◌≤◌, ◌<◌, ℕ, List, Option, None, Some, IfOk, IfSome, Result, Ok, Err, arith, length, min, subst, sym, take, inl, inr, refl}
use Rattle.std.specs.Borrow.{Bor}
use Rattle.std.specs.Str.{IsUtf8}
use Rattle.std.proofs.lemmas.List.{length-take}
use Rattle.gt_text.specs.Laws.{keeps_same, of_any_input, take_whole}
use Rattle.gt_text.specs.Streams.{OfInput}
use Rattle.gt_text.specs.declared.fault.ReadFault.{ReadFault}
use Rattle.gt_text.specs.declared.streams.TheConstants.{READ_LIMIT}
use Rattle.gt_types.specs.declared.limits.TheConstants.{LONGEST_TEXT}
use Rattle.gt_explore_choices.specs.declared.fault.ChoicesFault.TheVariants as choices_faults
use Rattle.gt_command_line.specs.Files.{file_name_of}
use Rattle.gt_file_commands.specs.Working.{Doing, DoesOnFile, Ending, known_input}
use Rattle.gt_file_commands.specs.declared.failure.Failure.{Failure}
use Rattle.gt_file_commands.specs.declared.failure.Failure.TheVariants as failures
use Rattle.gt_program.specs.Obeying.{HasChoice, IsSourceWithChoice, IsWithChoice, Searches, SearchesByChoices}
use Rattle.gt_program.specs.Obeying.{SearchesPlain, unread_failure}
use Rattle.gt_program.specs.declared.exploring.SearchAsked.{SearchAsked}

-- what was read of a text that is not longer than a script may be is the whole text
whole_read : (all input : List ℕ) → input ≡ take READ_LIMIT all → length input ≤ LONGEST_TEXT → input ≡ all
whole_read all input is few = is ∙ take_whole LONGEST_TEXT all (subst (λ (l : List ℕ). length l ≤ LONGEST_TEXT) is few)

same_choice : (all input : List ℕ) (found : Option (Bor (List ℕ))) → input ≡ all → length input ≤ LONGEST_TEXT → IsUtf8 input → IsWithChoice input found → IsSourceWithChoice all found
same_choice all input (Some source) is few utf8 (same, line) = (same ∙ is, subst HasChoice is (record { few = few; utf8 = utf8; line = line }))
same_choice all input None is few utf8 none = λ has. let line = (subst HasChoice (sym is) has).line in absurd (cc)

-- the text is returned if it has a choice
pub source_so : {E : Type 0} (all input text : List ℕ) (r : Result (Option (Bor (List ℕ))) E) → input ≡ take READ_LIMIT all → length input ≤ LONGEST_TEXT → IsUtf8 input → text ≡ input
    → IfOk r (IsWithChoice text) → IfOk r (IsSourceWithChoice all)
source_so all input text (Ok found) is few utf8 same with =
    same_choice all input found (whole_read all input is few) few utf8 (subst (λ (t : List ℕ). IsWithChoice t found) same with)
source_so all input text (Err e) is few utf8 same with = tt

-- a longer text has none
pub too_long : (all input : List ℕ) → input ≡ take READ_LIMIT all → LONGEST_TEXT < length input → HasChoice all → ⊥
too_long all input is long has =
    let e : length input ≡ min READ_LIMIT (length all) = subst (λ (l : List ℕ). length l ≡ min READ_LIMIT (length all)) (sym is) (length-take READ_LIMIT all) in
    let few = has.few in
    absurd (omega (arith, e, few, long))

-- nor has one that is not UTF-8
pub not_utf8 : (all input : List ℕ) → input ≡ take READ_LIMIT all → length input ≤ LONGEST_TEXT → (IsUtf8 input → ⊥) → HasChoice all → ⊥
not_utf8 all input is few never has = never (subst IsUtf8 (sym (whole_read all input is few)) has.utf8)

-- ---- what was done with the text

-- it was explored by its choices
pub searched_chosen : (asked : SearchAsked) (all : List ℕ) (source : Bor (List ℕ)) (found : Option (Bor (List ℕ))) (old new : Option (List ℕ)) (r : Ending) → IsSourceWithChoice all found → found ≡ Some source
    → SearchesByChoices asked source.now old new r → Searches asked all old new r
searched_chosen asked all source found old new r of is does =
    let both : (source.now ≡ all) × HasChoice all = subst (IsSourceWithChoice all) is of in
    inl (inl (both.1, subst (λ (s : List ℕ). SearchesByChoices asked s old new r) both.0 does))

-- it has none
pub searched_plain : (asked : SearchAsked) (all : List ℕ) (found : Option (Bor (List ℕ))) (old new : Option (List ℕ)) (r : Ending) → IsSourceWithChoice all found → found ≡ None → SearchesPlain asked all old new r
    → Searches asked all old new r
searched_plain asked all found old new r of is does = inl (inr (subst (IsSourceWithChoice all) is of, does))

-- an allocation failed
pub unsearched : (asked : SearchAsked) (all : List ℕ) (old : Option (List ℕ)) → Searches asked all old old (Err (failures.Choices choices_faults.Memory))
unsearched asked all old = inr (inr refl, keeps_same old)

-- it was not read
pub searched_unread : (asked : SearchAsked) (known old : Option (List ℕ)) (error : ReadFault) (failure : Failure) → failure ≡ unread_failure error → OfInput known (λ input. Searches asked input old old (Err failure))
searched_unread asked known old error failure is =
    of_any_input known (λ (input : List ℕ). Searches asked input old old (Err failure))
    (λ (input : List ℕ). subst (λ (f : Failure). Searches asked input old old (Err f)) (sym is) (inr (inl (error, refl), keeps_same old)))

-- ---- the text of a name

on_known : (P : Doing) (known have name old new : Option (List ℕ)) (r : Ending) → IfSome known (λ all. have ≡ Some all) → OfInput have (λ input. P input old new r) → IfSome known (λ input. DoesOnFile P name input old new r)
on_known P None have name old new r is does = tt
on_known P (Some all) have name old new r is does = inl (subst (λ (h : Option (List ℕ)). OfInput h (λ input. P input old new r)) is does)

-- it was done with the standard input
pub on_input : (P : Doing) (name : Option (Bor (List ℕ))) (file : List ℕ → Option (List ℕ)) (input have old new : Option (List ℕ)) (r : Ending) → name ≡ None → IfSome input (λ all. have ≡ Some all)
    → OfInput have (λ i. P i old new r) → IfSome (known_input file input name) (λ i. DoesOnFile P (file_name_of name) i old new r)
on_input P name file input have old new r is opens does =
    subst (λ (n : Option (Bor (List ℕ))). IfSome (known_input file input n) (λ i. DoesOnFile P (file_name_of n) i old new r)) (sym is) (on_known P input have None old new r opens does)

-- or with the file of this name
pub on_named : (P : Doing) (name : Option (Bor (List ℕ))) (of : Bor (List ℕ)) (file : List ℕ → Option (List ℕ)) (input have old new : Option (List ℕ)) (r : Ending) → name ≡ Some of → IfSome (file of.now) (λ all. have ≡ Some all)
    → OfInput have (λ i. P i old new r) → IfSome (known_input file input name) (λ i. DoesOnFile P (file_name_of name) i old new r)
on_named P name of file input have old new r is opens does =
    subst (λ (n : Option (Bor (List ℕ))). IfSome (known_input file input n) (λ i. DoesOnFile P (file_name_of n) i old new r)) (sym is) (on_known P (file of.now) have (Some of.now) old new r opens does)
