use Rattle.std.proofs.Common.{◌≡◌, drop, map}
use Rattle.gt_explore_summary.specs.Columns.{has_other}
use Rattle.gt_explore_summary.proofs.columns.has_other.Given as goal

abbrev pub invariant-lines : goal.invariant-lines
invariant-lines l =
    has_other l.line (map (λ x. x.now) l.lines) ≡ has_other l.line (map (λ x. x.now) (drop l.other-index l.lines))
