use Rattle.std.proofs.Common.{◌≡◌, map}
use Rattle.std.specs.List.{range_with_len}
use Rattle.gt_explore_summary.specs.Columns.{column_at, column_lines, filled_lines}
use Rattle.gt_explore_summary.proofs.columns.columns.Given as goal

abbrev pub invariant-places : goal.invariant-places
invariant-places l =
    map column_lines l.columns.items ≡ map (column_at (map filled_lines l.texts)) (range_with_len 0 l.at)
