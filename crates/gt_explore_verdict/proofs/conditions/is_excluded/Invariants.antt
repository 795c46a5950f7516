use Rattle.std.proofs.Common.{◌≡◌, drop, map}
use Rattle.gt_explore_verdict.specs.Expressions.{condition_asked, is_excluded}
use Rattle.gt_explore_verdict.proofs.conditions.is_excluded.Given as goal

abbrev pub invariant-conditions : goal.invariant-conditions
invariant-conditions l =
    is_excluded (map condition_asked l.conditions) (condition_asked l.condition)
    ≡ is_excluded (map condition_asked (drop l.earlier-index l.conditions)) (condition_asked l.condition)
