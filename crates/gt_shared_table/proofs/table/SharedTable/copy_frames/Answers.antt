use Rattle.std.proofs.Common.{◌≡◌, ◌∙◌, List, ap, sym, subst}
use Rattle.std.specs.Prelude.{nat_lt}
use Rattle.gt_word_history.specs.Places.{SeatAt}
use Rattle.gt_shared_table.specs.Locking.{LocksOf}
use Rattle.gt_shared_table.specs.Recording.{both_locks}
use Rattle.gt_shared_table.specs.Rule.{FrameAt, slot_frame, places_of}
use Rattle.gt_shared_table.specs.Words.{named_at}
use Rattle.gt_shared_table.proofs.Names.{locked}
use Rattle.gt_shared_table.proofs.Upwards.{locks_after}
use Rattle.gt_shared_table.proofs.table.SharedTable.copy_frames.Goals as goal

pub returns-else-from-to-clause-locks : goal.returns-else-from-to-clause-locks
returns-else-from-to-clause-locks g c =
    let t = c.self.inside.table.shared in let s = c.slot_at-from.result in let d = c.slot_at-to.result in
    let a = named_at c.args.source in let b = named_at c.args.dest in let w = c.args.args in
    let old = c.seat.inside.seat.me.0.locks in
    let ls : List FrameAt = both_locks (nat_lt s.index d.index) s d old in
    let of : LocksOf a b old ls =
    locked t.key t.table_id s d a b old c.slot_at-from.ensures.slot c.slot_at-to.ensures.slot c.slot_at-from.ensures.name
    c.slot_at-to.ensures.name c.if-from-to.false in
    let after = locks_after (places_of t.key).layout (slot_frame s) (slot_frame d) w.writ.now w.range w.to_off ls c.seat.inside.seat.me c.copy.new.seat.me
    c.copy.result c.copy.ensures.copied c.copy.ensures.refused in
    subst (λ (new : List FrameAt). LocksOf a b c.args.seat.now.locks new) (sym after)
    (subst (λ (before : List FrameAt). LocksOf a b before ls) (ap (λ (seat : SeatAt). seat.locks) c.seat.view_is) of)
