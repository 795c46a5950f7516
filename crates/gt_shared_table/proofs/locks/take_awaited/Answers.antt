use Rattle.std.proofs.Common.{ℕ, sym, subst}
use Rattle.atomic_table.specs.Table.{Allows}
use Rattle.gt_word_history.proofs.Order.{within}
use Rattle.gt_shared_table.specs.Rule.{HoldsAll, slot_frame, places_of}
use Rattle.gt_shared_table.specs.Recording.{Locks}
use Rattle.gt_shared_table.proofs.Steps.{awaits}
use Rattle.gt_shared_table.proofs.locks.take_awaited.Goals as goal

pub await_word-requires-clause-allowed : goal.await_word-requires-clause-allowed
await_word-requires-clause-allowed c = let t = c.args.cells.now in let b = places_of t.key in let s = c.args.seat.now in let q = c.args.slot in
    subst (λ (i : ℕ). Allows (HoldsAll b) t.table_id.slots s.id s.me i (λ _. 2) (λ n m. Locks b (slot_frame q) q.index s.me n m)) (sym c.requires.slot.0)
    (awaits b t.table_id.slots s.id s.me q.index (slot_frame q) c.requires.slot.2 (within b.names q.index (slot_frame q) c.requires.slot.2))
