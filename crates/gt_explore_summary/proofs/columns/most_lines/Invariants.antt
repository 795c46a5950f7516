use Rattle.std.proofs.Common.{◌≡◌, drop, map}
use Rattle.gt_explore_summary.specs.Columns.{filled_lines, most_from}
use Rattle.gt_explore_summary.proofs.columns.most_lines.Given as goal

abbrev pub invariant-texts : goal.invariant-texts
invariant-texts l =
    most_from l.most (map filled_lines (drop l.text-index l.texts)) ≡ most_from 0 (map filled_lines l.texts)
