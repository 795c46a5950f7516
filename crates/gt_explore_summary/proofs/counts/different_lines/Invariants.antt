use Rattle.std.proofs.Common.{◌≡◌, drop, map}
use Rattle.std.specs.Prelude.{fold}
use Rattle.gt_explore_summary.specs.Counts.{different_lines, with_new_line}
use Rattle.gt_explore_summary.proofs.counts.different_lines.Given as goal

abbrev pub invariant-column : goal.invariant-column
invariant-column l =
    fold with_new_line (map (λ x. x.now) l.lines.items) (map (λ x. x.now) (drop l.line-index l.column))
    ≡ different_lines (map (λ x. x.now) l.column)
