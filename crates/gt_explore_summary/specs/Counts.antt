-- The different lines of a column, and how many of its texts have each.
use Rattle.std.specs.Prelude.{◌≡◌, ◌++◌, ℕ, Bool, true, List, [], ◌∷◌, count_by, fold, if◌then◌else◌, length, sum_by}
use Rattle.std.specs.List.{list_any}
use Rattle.std.specs.Str.{bytes_eq}

-- this line is one of those
abbrev pub is_among_lines : List (List ℕ) → List ℕ → Bool
is_among_lines lines line = list_any (λ other. bytes_eq other line) lines

-- one line more, unless it is there
abbrev pub with_new_line : List (List ℕ) → List ℕ → List (List ℕ)
with_new_line lines line = if is_among_lines lines line then lines else lines ++ line ∷ []

-- the lines of a column, each once, in the order in which each comes first
abbrev pub different_lines : List (List ℕ) → List (List ℕ)
different_lines column = fold with_new_line [] column

-- how many lines of a column are this one
abbrev pub count_of_line : List ℕ → List (List ℕ) → ℕ
count_of_line line column = count_by (λ other. bytes_eq other line) column

-- these are the lines of a column: exactly its lines are among them, each is there once, and their counts are those of
-- all its texts
pub record AreItsLines (column lines : List (List ℕ)) : Type 0 where
  pub each : (line : List ℕ) → is_among_lines lines line ≡ is_among_lines column line
  pub once : (line : List ℕ) → is_among_lines lines line ≡ true → count_of_line line lines ≡ 1
  pub all : sum_by (λ line. count_of_line line column) lines ≡ length column
