-- The texts of the choices of a script.
use Rattle.std.specs.Prelude.{◌≡◌, ℕ, ◌+◌, ◌++◌, ◌==◌, ◌||◌, Bool, true, false, List, [], ◌∷◌, codes, drop, length, map}
use Rattle.std.specs.Prelude.{Option, Some, None, min, not, slice_get, take}
use Rattle.std.specs.List.{position}
use Rattle.std.specs.Str.Lines.{lines as lines_in}
use Rattle.gt_explore_choices.specs.Kinds.{Kind, Marked, fixed, must, may, leave, marked_lines}
use Rattle.gt_explore_choices.specs.Choosing.{IsChoice, Open}
use Rattle.gt_explore_choices.specs.declared.fault.ChoicesFault.{ChoicesFault}
use Rattle.gt_explore_choices.specs.declared.fault.ChoicesFault.TheVariants.{Memory, Many, Unanswered}

-- neither a space nor a tab
abbrev pub is_no_blank : ℕ → Bool
is_no_blank b = not ((b == 32) || (b == 9))

-- the bytes after the word `maybe`
abbrev pub without_word : List ℕ → List ℕ
without_word line = drop (min 5 (length line)) line

-- a `maybe` line as a `do` line, by the index of its first letter
abbrev pub done_at : Option ℕ → List ℕ → List ℕ
done_at None line = line
done_at (Some at) line = take at line ++ codes "do   " ++ without_word (drop at line)

-- a line that is kept
abbrev pub line_kept_as : Kind → List ℕ → List ℕ
line_kept_as fixed line = line
line_kept_as (must dom) line = line
line_kept_as (may dom) line = done_at (position is_no_blank line) line
line_kept_as (leave dom) line = line

abbrev pub line_kept : Marked → List ℕ
line_kept m = line_kept_as m.kind m.line

-- a line with its line end; it is empty if it is not kept
abbrev pub line_chosen : Option Bool → Marked → List ℕ
line_chosen None m = codes "\n"
line_chosen (Some false) m = codes "\n"
line_chosen (Some true) m = line_kept m ++ codes "\n"

-- the text of these lines, the first of which has the flag at this index
abbrev pub text_chosen : List Marked → List Bool → ℕ → List ℕ
text_chosen [] kept at = []
text_chosen (m ∷ ms) kept at = line_chosen (slice_get kept at) m ++ text_chosen ms kept (at + 1)

abbrev pub text_by : List Marked → Open → List ℕ
text_by lines o = text_chosen lines o.kept 0

-- the text is that of these lines, in which those that are not kept in some choice are empty
abbrev pub IsChoiceIn : List Marked → List ℕ → Type 0
IsChoiceIn lines text = (kept : List Bool) × IsChoice (map (λ m. m.kind) lines) kept × (text ≡ text_chosen lines kept 0)

-- The text is a choice of a script: that of its lines, with `maybe` lines as `do` lines, in which those that are not
-- kept are empty.
abbrev pub IsChoiceOf : List ℕ → List ℕ → Type 0
IsChoiceOf source = IsChoiceIn (marked_lines (lines_in source))

-- the text is one of these
abbrev pub IsOneOf : List ℕ → List (List ℕ) → Type 0
IsOneOf text texts = (at : ℕ) × (slice_get texts at ≡ Some text)

-- the line is kept where nothing is left out
abbrev pub is_kept_whole : Kind → Bool
is_kept_whole fixed = true
is_kept_whole (must dom) = true
is_kept_whole (may dom) = true
is_kept_whole (leave dom) = false

-- the choice that leaves out no `maybe` line, and in which no domain leaves
abbrev pub whole_in : List Marked → List ℕ
whole_in lines = text_chosen lines (map is_kept_whole (map (λ m. m.kind) lines)) 0

abbrev pub whole_text : List ℕ → List ℕ
whole_text source = whole_in (marked_lines (lines_in source))

-- a fault as it is printed
abbrev pub choices_fault_text : ChoicesFault → List ℕ
choices_fault_text Memory = codes "memory"
choices_fault_text Many = codes "more than 4096 choices"
choices_fault_text Unanswered = codes "not for a script with maybe or leave"
