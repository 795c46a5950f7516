use Rattle.std.proofs.Common.{◌≡◌}
use Rattle.gt_shared_table.proofs.locks.lock_awaited.Given as goal

abbrev pub invariant-tries : goal.invariant-tries
invariant-tries g l =
    (goal.iterator-tries g).can_next l._try-iterator ×
    (goal.iterator-tries g).is_finite l._try-iterator ×
    (l.seat.table_id ≡ l.fn.seat.table_id) × (l.seat.id ≡ l.fn.seat.id) × (l.seat.me ≡ l.fn.seat.me)
