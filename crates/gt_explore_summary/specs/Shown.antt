-- What is printed of columns: the answers of each text, and how many have each.
use Rattle.std.specs.Prelude.{◌+◌, ◌++◌, ◌==◌, ℕ, Bool, true, false, List, [], ◌∷◌, Option, Some, None, codes}
use Rattle.std.specs.Prelude.{count_by, decimal}
use Rattle.std.specs.Prelude.{drop, if◌then◌else◌, not, slice_index_or, take}
use Rattle.std.specs.List.{position}
use Rattle.gt_explore_summary.specs.Columns.{varies}
use Rattle.gt_explore_summary.specs.Counts.{count_of_line, different_lines}

-- a line up to its first space, and after it
abbrev pub bytes_before : Option ℕ → List ℕ → List ℕ
bytes_before None line = line
bytes_before (Some at) line = take at line

abbrev pub bytes_after : Option ℕ → List ℕ → List ℕ
bytes_after None line = []
bytes_after (Some at) line = drop (at + 1) line

abbrev pub first_part : List ℕ → List ℕ
first_part line = bytes_before (position (λ b. b == 32) line) line

abbrev pub later_part : List ℕ → List ℕ
later_part line = bytes_after (position (λ b. b == 32) line) line

-- the answer of a line `LINE ID ANSWER`
abbrev pub answer_part_of : List ℕ → List ℕ
answer_part_of line = later_part (later_part line)

-- what is before an item of a list
abbrev pub between : Bool → List ℕ
between is_first = if is_first then [] else codes ", "

-- `ANSWER (COUNT)` for each of these lines
abbrev pub counts_from : Bool → List (List ℕ) → List (List ℕ) → List ℕ
counts_from is_first column [] = []
counts_from is_first column (line ∷ lines) =
    between is_first ++ answer_part_of line ++ codes " (" ++ decimal (count_of_line line column) ++ codes ")"
    ++ counts_from false column lines

-- `LINE: ANSWER (COUNT), ANSWER (COUNT)`
unfoldable pub counts_line : List (List ℕ) → List ℕ
counts_line column =
    first_part (slice_index_or column 0 []) ++ codes ": " ++ counts_from true column (different_lines column)
    ++ codes "\n"

-- the same, if two texts differ there
abbrev pub counts_shown : List (List ℕ) → List ℕ
counts_shown column = if varies column then counts_line column else []

-- how many columns have one line alone
abbrev pub steady_count : List (List (List ℕ)) → ℕ
steady_count columns = count_by (λ column. not (varies column)) columns

-- the last line: how many lines have one answer in all texts
unfoldable pub steady_line : ℕ → ℕ → List ℕ
steady_line steady texts =
    codes "lines with one answer: " ++ decimal steady ++ codes ", texts: " ++ decimal texts ++ codes "\n"

-- `LINE: ANSWER | ANSWER`, by the first two texts of a column
unfoldable pub difference_line : List (List ℕ) → List ℕ
difference_line column =
    first_part (slice_index_or column 0 []) ++ codes ": " ++ answer_part_of (slice_index_or column 0 []) ++ codes " | "
    ++ answer_part_of (slice_index_or column 1 []) ++ codes "\n"

abbrev pub pair_shown : List (List ℕ) → List ℕ
pair_shown column = if varies column then difference_line column else []
