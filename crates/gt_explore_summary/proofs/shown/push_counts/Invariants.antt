use Rattle.std.proofs.Common.{◌≡◌, ◌++◌, drop, map, true}
use Rattle.gt_explore_summary.specs.Shown.{counts_from}
use Rattle.gt_explore_summary.proofs.shown.push_counts.Given as goal

-- what is written so far, and then the lines that are left, is what is written of all
abbrev pub invariant-lines : goal.invariant-lines
invariant-lines l =
    l.out.items ++ counts_from l.is_first (map (λ x. x.now) l.column) (map (λ x. x.now) (drop l.line-index l.lines))
    ≡ l.initial.out.items ++ counts_from true (map (λ x. x.now) l.column) (map (λ x. x.now) l.lines)
