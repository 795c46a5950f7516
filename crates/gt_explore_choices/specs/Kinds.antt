-- What each line of a script is for a choice.
use Rattle.std.specs.Prelude.{ℕ, ◌+◌, ◌==◌, ◌&&◌, ◌||◌, Bool, false, List, [], ◌∷◌, Option, Some, None, codes}
use Rattle.std.specs.Prelude.{count_by, if◌then◌else◌, length}
use Rattle.std.specs.Str.{bytes_eq}
use Rattle.gt_script_lines.specs.Words.{words}
use Rattle.gt_explore_choices.specs.declared.kinds.ChoicePlace.{ChoicePlace}
use Rattle.gt_explore_choices.specs.declared.kinds.ChoiceWord.{ChoiceWord}
use Rattle.gt_explore_choices.specs.declared.kinds.ChoiceWord.TheVariants as choice_words
use Rattle.gt_explore_choices.specs.declared.kinds.LineKind.{LineKind}
use Rattle.gt_explore_choices.specs.declared.kinds.LineKind.TheVariants as line_kinds
use Rattle.gt_explore_choices.specs.declared.kinds.MarkedLine.{MarkedLine}

-- a line in each choice; one of a domain's list; one of it that may be left out; and one at which the list may end
pub data Kind : Type 0 where
  fixed : Kind
  must : List ℕ → Kind
  may : List ℕ → Kind
  leave : List ℕ → Kind

abbrev pub kind_seen : LineKind → Kind
kind_seen line_kinds.Fixed = fixed
kind_seen (line_kinds.Must dom) = must dom.now
kind_seen (line_kinds.May dom) = may dom.now
kind_seen (line_kinds.Leave dom) = leave dom.now

-- a number without leading zeros
abbrev pub trimmed : List ℕ → List ℕ
trimmed [] = []
trimmed (b ∷ bs) = if b == 48 then trimmed bs else b ∷ bs

-- a line of a domain's list begins with this word
abbrev pub is_list_word : List ℕ → Bool
is_list_word word = bytes_eq word (codes "do") || bytes_eq word (codes "tell") || bytes_eq word (codes "await")

-- a line by its first word, its domain, and whether it has only these two words
abbrev pub kind_by : List ℕ → List ℕ → Bool → Kind
kind_by word dom is_short =
    if bytes_eq word (codes "maybe") then may dom
    else (if bytes_eq word (codes "leave") && is_short then leave dom
    else (if is_list_word word then must dom else fixed))

-- a line after the `domain` lines by its words
unfoldable pub kind_of_words : List (List ℕ) → Kind
kind_of_words [] = fixed
kind_of_words (word ∷ []) = fixed
kind_of_words (word ∷ dom ∷ more) = kind_by word (trimmed dom) (length more == 0)

-- the words of a `domain` line
unfoldable pub is_domain_words : List (List ℕ) → Bool
is_domain_words [] = false
is_domain_words (word ∷ more) = bytes_eq word (codes "domain")

abbrev pub is_domain_line : List ℕ → Bool
is_domain_line line = is_domain_words (words line)

-- a line with this number of `domain` lines after it
abbrev pub kind_before : ℕ → List ℕ → Kind
kind_before later line = if later == 0 then kind_of_words (words line) else fixed

-- a line, and what it is
pub record Marked : Type 0 where
  pub kind : Kind
  pub line : List ℕ

abbrev pub marked_seen : MarkedLine → Marked
marked_seen m = record { kind = kind_seen m.kind; line = m.line.now }

-- the lines of a script; those before the last `domain` line are no choices
abbrev pub marked_lines : List (List ℕ) → List Marked
marked_lines [] = []
marked_lines (line ∷ lines) =
    record { kind = kind_before (count_by is_domain_line lines) line; line = line } ∷ marked_lines lines

-- the word of a line that is a choice
abbrev pub choice_word : Kind → Option ChoiceWord
choice_word fixed = None
choice_word (must dom) = None
choice_word (may dom) = Some choice_words.Maybe
choice_word (leave dom) = Some choice_words.Leave

abbrev pub choice_word_text : ChoiceWord → List ℕ
choice_word_text choice_words.Maybe = codes "maybe"
choice_word_text choice_words.Leave = codes "leave"

-- the first of these lines that is a choice, if the first line has this number
abbrev pub place_by : Option ChoiceWord → ℕ → Option ChoicePlace → Option ChoicePlace
place_by (Some word) number later = Some (record { line = number; word = word })
place_by None number later = later

abbrev pub first_choice : ℕ → List Marked → Option ChoicePlace
first_choice number [] = None
first_choice number (m ∷ ms) = place_by (choice_word m.kind) number (first_choice (number + 1) ms)
