-- Texts side by side: what each of them has at a line.
use Rattle.std.specs.Prelude.{◌==◌, ℕ, Bool, not, List, [], ◌∷◌, filter, if◌then◌else◌, length, map, nat_lt}
use Rattle.std.specs.Prelude.{slice_index_or}
use Rattle.std.specs.List.{list_any, range_with_len, slice_split}
use Rattle.std.specs.Str.{bytes_eq}
use Rattle.gt_explore_summary.specs.declared.columns.Column.{Column}
use Rattle.gt_explore_summary.specs.declared.columns.TextLines.{TextLines}

-- a line is not empty
abbrev pub is_filled : List ℕ → Bool
is_filled line = not (length line == 0)

-- the lines of a text
abbrev pub split_lines : List ℕ → List (List ℕ)
split_lines text = filter is_filled (slice_split (λ b. b == 10) text)

abbrev pub filled_lines : TextLines → List (List ℕ)
filled_lines t = map (λ l. l.now) t.lines.items

abbrev pub column_lines : Column → List (List ℕ)
column_lines c = map (λ l. l.now) c.lines.items

-- the line of each text at an index, empty if the text ends before
abbrev pub column_at : List (List (List ℕ)) → ℕ → List (List ℕ)
column_at texts at = map (λ lines. slice_index_or lines at []) texts

-- the largest number of lines, and this number if none has more
abbrev pub most_from : ℕ → List (List (List ℕ)) → ℕ
most_from most [] = most
most_from most (lines ∷ texts) = most_from (if nat_lt most (length lines) then length lines else most) texts

-- the columns of these texts, the first lines first
abbrev pub columns_of : List (List (List ℕ)) → List (List (List ℕ))
columns_of texts = map (column_at texts) (range_with_len 0 (most_from 0 texts))

-- a line of a column differs from this one
abbrev pub has_other : List ℕ → List (List ℕ) → Bool
has_other line lines = list_any (λ other. not (bytes_eq other line)) lines

-- two lines of a column differ
abbrev pub varies : List (List ℕ) → Bool
varies column = has_other (slice_index_or column 0 []) column
