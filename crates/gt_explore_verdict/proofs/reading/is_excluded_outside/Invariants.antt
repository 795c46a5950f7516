use Rattle.std.proofs.Common.{◌≡◌, map}
use Rattle.std.specs.VecDeque.Iter.{deque_iter_rest}
use Rattle.gt_explore_verdict.specs.Expressions.{condition_asked, is_excluded}
use Rattle.gt_explore_verdict.specs.Reading.{joined_outside, level_asked}
use Rattle.gt_explore_verdict.proofs.reading.is_excluded_outside.Given as goal

abbrev pub invariant-levels : goal.invariant-levels
invariant-levels l =
    is_excluded (joined_outside (map level_asked l.outer.items)) (condition_asked l.condition)
    ≡ is_excluded (joined_outside (map level_asked (deque_iter_rest l.level-iterator))) (condition_asked l.condition)
