use Rattle.std.proofs.Common.{◌≡◌, ◌++◌, drop, map}
use Rattle.std.specs.List.{flat_map}
use Rattle.gt_explore_summary.specs.Columns.{column_lines}
use Rattle.gt_explore_summary.specs.Lines.{counts_written}
use Rattle.gt_explore_summary.proofs.lines.push_all_counts.Given as goal

abbrev pub invariant-columns : goal.invariant-columns
invariant-columns l =
    l.out.items ++ flat_map (counts_written l.form) (map column_lines (drop l.column-index l.columns))
    ≡ l.initial.out.items ++ flat_map (counts_written l.form) (map column_lines l.columns)
