use Rattle.std.proofs.Common.{◌≡◌, drop}
use Rattle.gt_explore_verdict.specs.Expressions.{condition_asked}
use Rattle.gt_explore_verdict.specs.Placing.{is_answered}
use Rattle.gt_explore_verdict.proofs.placing.is_answered.Given as goal

abbrev pub invariant-calls : goal.invariant-calls
invariant-calls l =
    is_answered (condition_asked l.condition).place (condition_asked l.condition).words l.calls
    ≡ is_answered (condition_asked l.condition).place (condition_asked l.condition).words (drop l.call-index l.calls)
