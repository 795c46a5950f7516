-- The same as JSON: an object for each line whose answers vary.
use Rattle.std.specs.Prelude.{◌++◌, ℕ, Bool, true, false, List, [], ◌∷◌, codes, decimal, if◌then◌else◌, slice_index_or}
use Rattle.gt_json.specs.Strings.{quoted}
use Rattle.gt_explore_summary.specs.Columns.{varies}
use Rattle.gt_explore_summary.specs.Counts.{count_of_line, different_lines}
use Rattle.gt_explore_summary.specs.Shown.{answer_part_of, first_part, later_part}

-- the number of the line, and the domain
unfoldable pub place_members : List ℕ → List ℕ
place_members line =
    codes "{\"line\":" ++ first_part line ++ codes ",\"domain\":" ++ first_part (later_part line)
    ++ codes ",\"answers\":["

-- what is before an item of an array
abbrev pub comma_after : Bool → List ℕ
comma_after is_first = if is_first then [] else codes ","

-- an answer, and how many texts have it
unfoldable pub count_object : List (List ℕ) → List ℕ → List ℕ
count_object column line =
    codes "{\"answer\":" ++ quoted (answer_part_of line) ++ codes ",\"texts\":" ++ decimal (count_of_line line column)
    ++ codes "}"

abbrev pub count_objects : Bool → List (List ℕ) → List (List ℕ) → List ℕ
count_objects is_first column [] = []
count_objects is_first column (line ∷ lines) =
    comma_after is_first ++ count_object column line ++ count_objects false column lines

abbrev pub counts_object : List (List ℕ) → List ℕ
counts_object column =
    place_members (slice_index_or column 0 []) ++ count_objects true column (different_lines column) ++ codes "]}\n"

abbrev pub counts_object_shown : List (List ℕ) → List ℕ
counts_object_shown column = if varies column then counts_object column else []

-- the last object: how many lines have one answer in all texts
unfoldable pub steady_object : ℕ → ℕ → List ℕ
steady_object steady texts =
    codes "{\"one_answer\":" ++ decimal steady ++ codes ",\"texts\":" ++ decimal texts ++ codes "}\n"

-- the answers of both texts
unfoldable pub pair_answers : List (List ℕ) → List ℕ
pair_answers column =
    quoted (answer_part_of (slice_index_or column 0 [])) ++ codes ","
    ++ quoted (answer_part_of (slice_index_or column 1 []))

abbrev pub pair_object : List (List ℕ) → List ℕ
pair_object column = place_members (slice_index_or column 0 []) ++ pair_answers column ++ codes "]}\n"

abbrev pub pair_object_shown : List (List ℕ) → List ℕ
pair_object_shown column = if varies column then pair_object column else []
