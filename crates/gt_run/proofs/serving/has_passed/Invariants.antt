use Rattle.std.proofs.Common.{◌≡◌}
use Rattle.gt_run.proofs.serving.has_passed.Given as goal

abbrev pub invariant-looks : goal.invariant-looks
invariant-looks g l =
    (goal.iterator-looks g).can_next l._look-iterator ×
    (goal.iterator-looks g).is_finite l._look-iterator ×
    (l.domain.monitor ≡ l.initial.domain.monitor) × (l.domain.domain ≡ l.initial.domain.domain)
