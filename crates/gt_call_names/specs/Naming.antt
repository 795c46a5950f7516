-- The names of calls, and expressions with the numbers of their lines in place of names.
use Rattle.std.specs.Prelude.{◌≡◌, ℕ, ◌+◌, ◌++◌, ◌==◌, ◌||◌, Bool, false, List, [], ◌∷◌, codes, decimal, drop, filter}
use Rattle.std.specs.Prelude.{Option, Some, None, if◌then◌else◌, slice_get, take}
use Rattle.std.specs.List.{position, slice_split}
use Rattle.std.specs.Option.{option_or}
use Rattle.std.specs.Str.{bytes_eq}
use Rattle.gt_script_lines.specs.CallNames.{given_name}
use Rattle.gt_script_lines.specs.Words.{words}
use Rattle.gt_call_names.specs.declared.fault.NameFault.{NameFault}
use Rattle.gt_call_names.specs.declared.fault.NameFault.TheVariants.{Memory, Repeated}

-- the name of the call of a line, by its words: `do ID CALL as NAME`
abbrev pub line_name : List (List ℕ) → Option (List ℕ)
line_name (word ∷ id ∷ call) = if bytes_eq word (codes "do") then given_name call else None
line_name (word ∷ []) = None
line_name [] = None

-- a name is this one
abbrev pub is_given_name : Option (List ℕ) → List ℕ → Bool
is_given_name (Some found) name = bytes_eq found name
is_given_name None name = false

-- the call of a line has this name
abbrev pub has_given_name : List ℕ → List ℕ → Bool
has_given_name name line = is_given_name (line_name (words line)) name

-- the numbers of the lines whose calls have this name, if the first of these lines has this number
abbrev pub number_if : Bool → ℕ → List ℕ
number_if wanted number = if wanted then number ∷ [] else []

abbrev pub numbers_named : List ℕ → ℕ → List (List ℕ) → List ℕ
numbers_named name number [] = []
numbers_named name number (line ∷ lines) =
    number_if (has_given_name name line) number ++ numbers_named name (number + 1) lines

-- a byte between two words of an expression: a space, a tab, `!`, `&`, `(`, `)` or `|`
abbrev pub is_break : ℕ → Bool
is_break b = (b == 32) || (b == 9) || (b == 33) || (b == 38) || (b == 40) || (b == 41) || (b == 124)

-- `=`
abbrev pub is_equals : ℕ → Bool
is_equals b = b == 61

-- what is before the `=` of a value in answers
abbrev pub is_field : List ℕ → Bool
is_field word =
    bytes_eq word (codes "frames") || bytes_eq word (codes "max") || bytes_eq word (codes "version")
    || bytes_eq word (codes "source") || bytes_eq word (codes "target") || bytes_eq word (codes "perm")
    || bytes_eq word (codes "field")

-- the numbers of the lines whose calls have the name before the first `=` of a word
abbrev pub lines_named : List (List ℕ) → List ℕ → List ℕ
lines_named lines name = if is_field name then [] else numbers_named name 1 lines

abbrev pub lines_named_before : List (List ℕ) → List ℕ → Option ℕ → List ℕ
lines_named_before lines part None = []
lines_named_before lines part (Some at) = lines_named lines (take at part)

abbrev pub lines_of_part : List (List ℕ) → List ℕ → List ℕ
lines_of_part lines part = lines_named_before lines part (position is_equals part)

-- the first two of these numbers
abbrev pub repeated : List ℕ → Option (ℕ × ℕ)
repeated (first ∷ second ∷ numbers) = Some (first, second)
repeated (first ∷ []) = None
repeated [] = None

-- the first two lines whose calls both have the name of one of these words
abbrev pub first_repeated : List (List ℕ) → List (List ℕ) → Option (ℕ × ℕ)
first_repeated lines [] = None
first_repeated lines (part ∷ parts) = option_or (repeated (lines_of_part lines part)) (first_repeated lines parts)

-- a word with the first of these numbers in place of what is before its `=`
abbrev pub part_numbered : List ℕ → List ℕ → Option ℕ → List ℕ
part_numbered part [] at = part
part_numbered part (number ∷ numbers) None = part
part_numbered part (number ∷ numbers) (Some at) = decimal number ++ drop at part

-- a mark, if there is one
abbrev pub mark_after : Option ℕ → List ℕ
mark_after None = []
mark_after (Some mark) = mark ∷ []

-- words with these marks between them, the first of which is at this index, and numbers in place of names
abbrev pub parts_numbered : List (List ℕ) → List (List ℕ) → List ℕ → ℕ → List ℕ
parts_numbered lines [] marks at = []
parts_numbered lines (part ∷ parts) marks at =
    part_numbered part (lines_of_part lines part) (position is_equals part)
    ++ (mark_after (slice_get marks at) ++ parts_numbered lines parts marks (at + 1))

-- an expression with the numbers of these lines in place of the names of their calls
abbrev pub with_line_numbers : List (List ℕ) → List ℕ → List ℕ
with_line_numbers lines expression =
    parts_numbered lines (slice_split is_break expression) (filter is_break expression) 0

-- an expression with numbers in place of names, each of one call
pub record IsExpressionNumbered (lines : List (List ℕ)) (expression out : List ℕ) : Type 0 where
  pub once : first_repeated lines (slice_split is_break expression) ≡ None
  pub is : out ≡ with_line_numbers lines expression

-- two lines whose calls both have one of its names
abbrev pub HasRepeated : List (List ℕ) → List ℕ → ℕ × ℕ → Type 0
HasRepeated lines expression both = first_repeated lines (slice_split is_break expression) ≡ Some both

-- a name of the expression is that of the calls on both lines, which are the first such, or an allocation failed
abbrev pub IsNumberingFault : List (List ℕ) → List ℕ → NameFault → Type 0
IsNumberingFault lines expression Memory = Unit {0}
IsNumberingFault lines expression (Repeated first second) =
    first_repeated lines (slice_split is_break expression) ≡ Some (first, second)

-- a fault as it is printed
abbrev pub name_fault_text : NameFault → List ℕ
name_fault_text Memory = codes "memory"
name_fault_text (Repeated first second) =
    codes "the same name on lines " ++ decimal first ++ codes " and " ++ decimal second
