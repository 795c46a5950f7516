-- A summary of texts, and the difference of two, in either form.
use Rattle.std.specs.Prelude.{◌++◌, ℕ, List, length}
use Rattle.std.specs.List.{flat_map}
use Rattle.gt_explore_summary.specs.Columns.{columns_of}
use Rattle.gt_explore_summary.specs.Objects.{counts_object_shown, pair_object_shown, steady_object}
use Rattle.gt_explore_summary.specs.Shown.{counts_shown, pair_shown, steady_count, steady_line}
use Rattle.gt_explore_summary.specs.declared.lines.ColumnForm.{ColumnForm}
use Rattle.gt_explore_summary.specs.declared.lines.ColumnForm.TheVariants.{Text, Json}

-- the answers of a column and their counts, if they vary
abbrev pub counts_written : ColumnForm → List (List ℕ) → List ℕ
counts_written Text column = counts_shown column
counts_written Json column = counts_object_shown column

abbrev pub steady_written : ColumnForm → ℕ → ℕ → List ℕ
steady_written Text steady texts = steady_line steady texts
steady_written Json steady texts = steady_object steady texts

-- the lines of texts whose answers vary, and how many others there are
abbrev pub summary_written : ColumnForm → List (List (List ℕ)) → List ℕ
summary_written form texts =
    flat_map (counts_written form) (columns_of texts)
    ++ steady_written form (steady_count (columns_of texts)) (length texts)

-- both answers of a column of two texts, if they differ
abbrev pub pair_written : ColumnForm → List (List ℕ) → List ℕ
pair_written Text column = pair_shown column
pair_written Json column = pair_object_shown column

-- the lines in which the first two of these texts differ
abbrev pub difference_written : ColumnForm → List (List (List ℕ)) → List ℕ
difference_written form texts = flat_map (pair_written form) (columns_of texts)
