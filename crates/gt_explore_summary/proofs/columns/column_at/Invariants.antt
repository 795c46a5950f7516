use Rattle.std.proofs.Common.{◌≡◌, ◌++◌, drop, map}
use Rattle.gt_explore_summary.specs.Columns.{column_at, filled_lines}
use Rattle.gt_explore_summary.proofs.columns.column_at.Given as goal

-- the lines so far, and then those of the texts that are left, are all
abbrev pub invariant-texts : goal.invariant-texts
invariant-texts l =
    map (λ x. x.now) l.lines.items ++ column_at (map filled_lines (drop l.text-index l.texts)) l.at
    ≡ column_at (map filled_lines l.texts) l.at
