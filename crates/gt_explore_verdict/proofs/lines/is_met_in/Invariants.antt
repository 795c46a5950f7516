use Rattle.std.proofs.Common.{◌≡◌, drop, map}
use Rattle.gt_explore_verdict.specs.Expressions.{condition_asked}
use Rattle.gt_explore_verdict.specs.Satisfying.{is_met_in}
use Rattle.gt_explore_verdict.proofs.lines.is_met_in.Given as goal

abbrev pub invariant-lines : goal.invariant-lines
invariant-lines l =
    is_met_in (condition_asked l.condition) (map (λ x. x.now) l.lines) ≡ is_met_in (condition_asked l.condition) (map (λ x. x.now) (drop l.line-index l.lines))
